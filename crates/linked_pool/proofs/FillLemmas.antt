-- One more chunk has a piece of the block.
use Rattle.std.proofs.Common.{◌≡◌, ◌≢◌, ℕ, zero, suc, ◌+◌, ◌-◌, ◌*◌, ◌/◌, ◌%◌, ◌<◌, ◌≤◌, min, Bool, List, [], ◌∷◌, ◌++◌}
use Rattle.std.proofs.Common.{length, take, drop}
use Rattle.std.proofs.Common.{get_or, set, refl, ap, sym, ◌∙◌, subst, arith, length-append, length-set, append_assoc}
use Rattle.std.proofs.Common.{length-drop}
use Rattle.std.proofs.lemmas.List.{get_or-set_same, get_or-set_other, take-append-drop, length-take, length-take-le}
use Rattle.std.proofs.lemmas.List.{take_all}
use Rattle.std.proofs.lemmas.List.{take_at, take_more, drop_at, take_min, take-append-le}
use Rattle.terms.specs.Bits.{bytes_of, bytes_for, byte_at, number_of, part}
use Rattle.terms.proofs.BitLemmas.{part-part, get_or-part, length-part, byte_at-whole, bytes_of_fields, length-bytes_of}
use Rattle.std.proofs.lemmas.List.FromFn.{get_or-map-range_with_len}
use Rattle.linked_pool.specs.Chains.{count, occurs, moved}
use Rattle.linked_pool.specs.Pool.{State, chunks_for, appended}
use Rattle.linked_pool.specs.Blocks.{joined, Fills, piece_of, IsPool, view_of, IsRef, ref_bytes, IsRest, rest_bytes}
use Rattle.std.proofs.Common.{eqb, ltb}
use Rattle.std.proofs.lemmas.Bool.{eqb-true, eqb-false, ltb-true, ltb-false}
use Rattle.terms.proofs.CaseLemmas.{bool_cases}
use Rattle.linked_pool.proofs.WalkLemmas.{count-append, count_one, occurs-at}
use Rattle.linked_pool.proofs.BlockLemmas.{Whole, length-joined, whole_take, whole_drop}
use Rattle.linked_pool.proofs.AppendLemmas.{joined_kept, append_law}

take_add : (n m : ℕ) (xs : List ℕ) → take (n + m) xs ≡ take n xs ++ take m (drop n xs)
take_add zero m xs = let e : 0 + m ≡ m = omega arith in ap (λ (k : ℕ). take k xs) e
take_add (suc n) zero [] = let e : suc n + 0 ≡ suc n = omega arith in rw e refl
take_add (suc n) (suc m) [] = let e : suc n + suc m ≡ suc (n + suc m) = omega arith in rw e refl
take_add (suc n) m (x ∷ xs) = let e : suc n + m ≡ suc (n + m) = omega arith in
    rw e (ap (λ (ys : List ℕ). x ∷ ys) (take_add n m xs))

joined-append : (chunks : List (List ℕ)) (xs ys : List ℕ) → joined chunks (xs ++ ys) ≡ joined chunks xs
    ++ joined chunks ys
joined-append chunks [] ys = refl
joined-append chunks (x ∷ xs) ys =
    rw (joined-append chunks xs ys) (sym (append_assoc (get_or chunks x []) (joined chunks xs) (joined chunks ys)))

-- a chain's chunk isn't one before it
not_before : (chain : List ℕ) (i : ℕ) → i < length chain → count (get_or chain i 0) chain ≤ 1
    → count (get_or chain i 0) (take i chain) ≡ 0
not_before chain i h one =
    let x : ℕ = get_or chain i 0 in
    let more : take (i + 1) chain ≡ take i chain ++ x ∷ [] = take_more chain i 0 h in
    let sum = ap (count x) more ∙ count-append x (take i chain) (x ∷ []) in
    let here = count_one x [] in
    let whole : count x (take (i + 1) chain) + count x (drop (i + 1) chain) ≡ count x chain =
    sym (count-append x (take (i + 1) chain) (drop (i + 1) chain)) ∙ ap (count x) (take-append-drop (i + 1) chain) in
    omega (arith, one, sum, here, whole)

pub in_chain : (chain : List ℕ) (i : ℕ) → i < length chain → 0 < count (get_or chain i 0) chain
in_chain [] i h = absurd (omega arith)
in_chain (x ∷ chain) zero h = let e = count_one x chain in omega (arith, e)
in_chain (x ∷ chain) (suc i) h = let k = in_chain chain i (omega arith) in omega (arith, k)

whole_set : (new : List (List ℕ)) (x : ℕ) (v : List ℕ) (c : ℕ) → x < length new → length v ≡ 256
    → ((c : ℕ) → c < length new → length (get_or new c []) ≡ 256) → c < length new
    → length (get_or (set new x v) c []) ≡ 256
whole_set new x v c inside size w lt =
    grind (arith, bool_cases, eqb, eqb-true, get_or-set_same, get_or-set_other, eqb-false)

pub fills_more : (chain block : List ℕ) (i : ℕ) (old new : List (List ℕ)) (piece rest : List ℕ) → i < length chain
    → ((c : ℕ) → count c chain ≤ 1) → ((c : ℕ) → 0 < count c chain → c < length new) → 256 * i ≤ length block →
    piece ≡ piece_of block i → length (piece ++ rest) ≡ 256 → Fills chain block i old new
    → Fills chain block (i + 1) old (set new (get_or chain i 0) (piece ++ rest))
fills_more chain block i old new piece rest h apart there fits is size f =
    let x : ℕ = get_or chain i 0 in
    let v : List ℕ = piece ++ rest in
    let new' : List (List ℕ) = set new x v in
    let inside : x < length new = there x (in_chain chain i h) in
    let before : count x (take i chain) ≡ 0 = not_before chain i h (apart x) in
    let more : take (i + 1) chain ≡ take i chain ++ x ∷ [] = take_more chain i 0 h in
    let parts : (c : ℕ) → count c (take i chain) + count c (drop i chain) ≡ count c chain =
    λ c. sym (count-append c (take i chain) (drop i chain)) ∙ ap (count c) (take-append-drop i chain) in
    let whole : Whole new (take i chain) = record {
      at = λ c s. f.whole c
          (there c (let e = parts c in omega (arith, e, s)));
    } in
    let front : joined new' (take i chain) ≡ joined new (take i chain) =
    joined_kept new new' (take i chain)
    (λ c s. get_or-set_other new x c v [] (λ z. let t : 0 < count x (take i chain) =
    subst (λ (y : ℕ). 0 < count y (take i chain)) z s in omega (arith, t, before))) in
    let back : joined new' (x ∷ []) ≡ v ++ [] = ap (λ (ys : List ℕ). ys ++ []) (get_or-set_same new x v [] inside) in
    let j : List ℕ = joined new (take i chain) in
    let done : List ℕ = take (256 * i) block in
    let long : length j ≡ 256 * i = length-joined new (take i chain) whole
    ∙ ap (λ (n : ℕ). 256 * n) (length-take-le i chain (omega arith)) in
    let long' : length done ≡ 256 * i = length-take-le (256 * i) block fits in
    let exact : j ≡ done = sym (take_all (length done) j (omega (arith, long, long'))) ∙ f.bytes in
    let all : joined new' (take (i + 1) chain) ≡ done ++ (v ++ []) = ap (joined new') more
    ∙ joined-append new' (take i chain) (x ∷ []) ∙ rw (front, back, exact) refl in
    let e : 256 * (i + 1) ≡ 256 * i + 256 = omega arith in
    let goal : take (256 * (i + 1)) block ≡ done ++ piece = ap (λ (n : ℕ). take n block) e
    ∙ take_add (256 * i) 256 block
    ∙ ap (λ (ys : List ℕ). done ++ ys) (sym is) in
    let split : done ++ (v ++ []) ≡ (done ++ piece) ++ (rest ++ []) =
    ap (λ (ys : List ℕ). done ++ ys) (append_assoc piece rest []) ∙ sym (append_assoc done piece (rest ++ [])) in
    record {
      bytes = rw (goal, all, split) (take_at (done ++ piece) (rest ++ []) (length (done ++ piece)) refl);
      kept = λ c none.
          let sum = ap (count c) more ∙ count-append c (take i chain) (x ∷ []) in
          let nx : c ≢ x =
          (λ z. let one = count_one x [] in let t : count x (take (i + 1) chain) ≡ 0 =
          subst (λ (y : ℕ). count y (take (i + 1) chain) ≡ 0) z none in let sum' =
          ap (count x) more ∙ count-append x (take i chain) (x ∷ []) in omega (arith, t, sum', one)) in
          get_or-set_other new x c v [] nx ∙ f.kept c (omega (arith, none, sum));
      whole = λ c lt0. let lt : c < length new = rw (length-set new x v) at lt0 in whole_set new x v
          c inside size f.whole lt;
    }

pub piece_law : (block : List ℕ) (i end : ℕ) → 256 * i ≤ length block → end ≡ min (length block) (256 * i + 256)
    → take (end - 256 * i) (drop (256 * i) block) ≡ piece_of block i
piece_law block i end h e =
    let long = length-drop (256 * i) block in
    let n : end - 256 * i ≡ min 256 (length (drop (256 * i) block)) = omega (arith, e, long) in
    ap (λ (k : ℕ). take k (drop (256 * i) block)) n ∙ take_min 256 (drop (256 * i) block)

pub bytes_len : (bits : List Bool) (len : ℕ) → length bits ≡ 8 * len → len ≡ length (bytes_of bits)
bytes_len bits len e = let n = length-bytes_of bits in omega (arith, e, n)

-- the bytes of a part that has whole ones are a part of the bytes
bytes_of-part : (bits : List Bool) (from count : ℕ) → 8 * (from + count) ≤ length bits
    → bytes_of (part bits (8 * from) (8 * count)) ≡ take count (drop from (bytes_of bits))
bytes_of-part bits from count inside =
    let all = length-bytes_of bits in
    let size = length-part (bytes_of bits) from count (omega (arith, all, inside)) in
    let long = length-part bits (8 * from) (8 * count) (omega (arith, inside)) in
    sym (bytes_of_fields (part bits (8 * from) (8 * count)) (take count (drop from (bytes_of bits)))
    (omega (arith, size, long))
    (λ k lt.
    let there : k < count = omega (arith, lt, size) in
    let e : 8 * (from + k) ≡ 8 * from + 8 * k = omega arith in
    get_or-part (bytes_of bits) from count k 0 there
    ∙ get_or-map-range_with_len (byte_at bits) 0 (bytes_for (length bits)) (from + k) (from + k) 0
    (omega (arith, inside, there)) (omega arith)
    ∙ byte_at-whole bits (from + k) (omega (arith, inside, there))
    ∙ ap (λ (n : ℕ). number_of (take 8 (drop n bits))) e
    ∙ sym (ap number_of (part-part bits (8 * from) (8 * count) (8 * k) 8 (omega (arith, there))))))

-- so are the bits of a piece
pub piece_of_bits : (bits : List Bool) (i end : ℕ) → length bits % 8 ≡ 0 → 256 * i ≤ length (bytes_of bits)
    → end ≡ min (length bits) (2048 * i + 2048) → bytes_of (part bits (2048 * i) (end - 2048 * i)) ≡ piece_of
    (bytes_of bits) i
piece_of_bits bits i end whole there e =
    let all = length-bytes_of bits in
    let count : ℕ = (end - 2048 * i) / 8 in
    let from : 2048 * i ≡ 8 * (256 * i) = omega arith in
    let size : end - 2048 * i ≡ 8 * count = omega (arith, whole, there, e, all) in
    let same : count ≡ 256 * i + count - 256 * i = omega arith in
    ap (λ (k : ℕ). bytes_of (part bits k (end - 2048 * i))) from
    ∙ ap (λ (k : ℕ). bytes_of (part bits (8 * (256 * i)) k)) size
    ∙ bytes_of-part bits (256 * i) count (omega (arith, size, e, there, all))
    ∙ ap (λ (k : ℕ). take k (drop (256 * i) (bytes_of bits))) same
    ∙ piece_law (bytes_of bits) i (256 * i + count) there (omega (arith, size, e, there, all, whole))

pub length-piece : (block : List ℕ) (i : ℕ) → length (piece_of block i) ≤ 256
length-piece block i = let e = length-take 256 (drop (256 * i) block) in omega (arith, e)

pub there_in : (cs : List (List ℕ)) (i n : ℕ) → ((c : ℕ) → 0 < occurs c cs → c < n) → 0 < length cs
    → i < length (get_or cs 0 [])
    → get_or (get_or cs 0 []) i 0 < n
there_in cs i n there some h =
    let x : ℕ = get_or (get_or cs 0 []) i 0 in
    let k = in_chain (get_or cs 0 []) i h in
    let m = occurs-at x cs 0 some in
    there x (omega (arith, k, m))

-- the step of the loop
pub fills_step : (cs : List (List ℕ)) (block : List ℕ) (i chunk : ℕ) (old new : List (List ℕ)) (piece was put : List ℕ)
    → ((c : ℕ) → 0 < occurs c cs → c < length new) → ((c : ℕ) → occurs c cs ≤ 1) → 0 < length cs →
    i < length (get_or cs 0 []) → 256 * i ≤ length block → chunk ≡ get_or (get_or cs 0 []) i 0
    → piece ≡ piece_of block i
    → was ≡ get_or new chunk [] → put ≡ piece ++ drop (length piece) was →
    Fills (get_or cs 0 []) block i old new → Fills (get_or cs 0 []) block (i + 1) old (set new chunk put)
fills_step cs block i chunk old new piece was put there apart some h fits at is same e f =
    let chain : List ℕ = get_or cs 0 [] in
    let one : (c : ℕ) → count c chain ≤ 1 = λ c. (let m = occurs-at c cs 0 some in let a = apart c in
    omega (arith, m, a)) in
    let in_new : (c : ℕ) → 0 < count c chain → c < length new =
    λ c s. there c (let m = occurs-at c cs 0 some in omega (arith, m, s)) in
    let inside : chunk < length new = rw at (in_new (get_or chain i 0) (in_chain chain i h)) in
    let old_long : length was ≡ 256 = ap length same ∙ f.whole chunk inside in
    let short : length piece ≤ 256 = rw is (length-piece block i) in
    let size : length (piece ++ drop (length piece) was) ≡ 256 = length-append piece (drop (length piece) was)
    ∙ (let d = length-drop (length piece) was in omega (arith, d, old_long, short)) in
    rw (e, at) (fills_more chain block i old new piece (drop (length piece) was) h one in_new fits is size f)

-- the code's append
pub append_done : (view : State) (chains chunks chunks' chunks'' chains' : List (List ℕ)) (lens counts : List ℕ)
    (i k n first len : ℕ)
    (block : List ℕ) → view ≡ view_of chains chunks lens counts → IsPool chains chunks lens counts
    → i < length view.lists →
    len ≡ length block → k ≡ chunks_for len → k ≤ length (get_or chains 0 []) → length chunks' ≡ length chunks
    → chunks'' ≡ chunks'
    → Fills (get_or chains 0 []) block k chunks chunks' →
    first ≡ get_or (get_or chains 0 []) 0 0 → n ≡ get_or counts i 0 + 1 → chains' ≡ moved chains 0 (i + 1) k →
    IsPool chains' chunks'' (set lens first len) (set counts i n)
    × (view_of chains' chunks'' (set lens first len) (set counts i n) ≡ appended view i block)
append_done view chains chunks chunks' chunks'' chains' lens counts i k n first len block e p h is few
    enough same copied f at more
    moves =
    let size : k ≡ chunks_for (length block) = few ∙ ap chunks_for is in
    let whole : take (256 * k) block ≡ block = take_all (256 * k) block (omega (arith, size)) in
    let bytes : take (length block) (joined chunks' (take k (get_or chains 0 []))) ≡ block = rw whole at f.bytes in
    rw (copied, at, is)
    (append_law view chains chunks chunks' chains' lens (set lens (get_or (get_or chains 0 []) 0 0) (length block))
    counts i k
    n block e p h
    (record {
      size = size;
      enough = enough;
      same = same;
      kept = f.kept;
      bytes = bytes;
      whole = f.whole;
      lens_is = refl;
    }) more
    moves)

pub first_free : (chains chunks : List (List ℕ)) (lens counts : List ℕ) (first : ℕ) → IsPool chains chunks lens counts
    → 0 < length (get_or chains 0 []) → first ≡ get_or (get_or chains 0 []) 0 0 → first < length lens
first_free chains chunks lens counts first p has e = grind (arith, bool_cases, ltb, ltb-true, ltb-false, there_in)

pub length-ref : (chains chunks : List (List ℕ)) (i offset first len : ℕ) → IsRef chains chunks i offset first len
    → len ≡ length (ref_bytes chains chunks i offset len)
length-ref chains chunks i offset first len r =
    grind (arith, Whole, occurs-at, length-joined, whole_take, whole_drop, length-take-le)

-- the bytes from an offset on
pub joined_take : (chunks : List (List ℕ)) (chain : List ℕ) (k n : ℕ) → Whole chunks chain → k ≤ length chain
    → n ≤ 256 * k
    → take n (joined chunks (take k chain)) ≡ take n (joined chunks chain)
joined_take chunks chain k n w le few =
    let whole = length-joined chunks (take k chain) (whole_take chunks k chain w) in
    let size = length-take-le k chain le in
    let long : n ≤ length (joined chunks (take k chain)) = omega (arith, whole, size, few) in
    let split : joined chunks chain ≡ joined chunks (take k chain) ++ joined chunks (drop k chain) =
    ap (joined chunks) (sym (take-append-drop k chain)) ∙ joined-append chunks (take k chain) (drop k chain) in
    sym (ap (take n) split ∙ take-append-le n (joined chunks (take k chain)) (joined chunks (drop k chain)) long)

pub pieces_is : (chains chunks : List (List ℕ)) (i offset first len : ℕ) → IsRef chains chunks i offset first len →
    IsRest chains chunks i offset first len × (rest_bytes chains chunks i offset len ≡ ref_bytes chains
    chunks i offset len)
pieces_is chains chunks i offset first len r = grind (arith, Whole, occurs-at, joined_take, whole_drop)

-- What lending a piece does.
pub record Lends (chains chunks : List (List ℕ)) (i offset chunk left : ℕ) (piece : List ℕ) (count : ℕ) : Type 0 where
  pub there : chunk < length chunks
  pub inside : offset < length (get_or chains i [])
  pub long : length piece ≡ count
  pub bytes : rest_bytes chains chunks i offset left ≡ piece ++ rest_bytes chains chunks i (offset + 1) (left - count)

split_first : (chunks : List (List ℕ)) (x : ℕ) (rest : List ℕ) (left count : ℕ) → length (get_or chunks x []) ≡ 256
    → count ≡ min left 256 →
    take left (joined chunks (x ∷ rest)) ≡ take count (get_or chunks x []) ++ take (left - count) (joined chunks rest)
split_first chunks x rest left count size is =
    let sum : left ≡ count + (left - count) = omega (arith, is) in
    let first : take count (joined chunks (x ∷ rest)) ≡ take count (get_or chunks x []) =
    take-append-le count (get_or chunks x []) (joined chunks rest) (omega (arith, is, size)) in
    let second : take (left - count) (drop count (joined chunks (x ∷ rest))) ≡ take (left - count)
    (joined chunks rest) =
    bool_cases (ltb left 256)
    (λ e. let lt = ltb-true left 256 e in let none : left - count ≡ 0 = omega (arith, lt, is) in rw none refl)
    (λ e. let ge = ltb-false left 256 e in let all : count ≡ length (get_or chunks x []) = omega
    (arith, ge, is, size) in
    ap (take (left - count)) (rw all (drop_at (get_or chunks x []) (joined chunks rest) (length (get_or chunks x []))
    refl))) in
    ap (λ (n : ℕ). take n (joined chunks (x ∷ rest))) sum ∙ take_add count (left - count) (joined chunks (x ∷ rest))
    ∙ rw (first, second) refl

drop_first : (chain : List ℕ) (offset : ℕ) → offset < length chain → drop offset chain ≡ get_or chain offset 0
    ∷ drop (offset + 1) chain
drop_first [] offset h = absurd (omega arith)
drop_first (x ∷ chain) zero h = refl
drop_first (x ∷ chain) (suc offset) h = let e : suc offset + 1 ≡ suc (offset + 1) = omega arith in
    rw e (drop_first chain offset (omega arith))

pub lends : (chains chunks : List (List ℕ)) (i offset chunk left count : ℕ) → IsRest chains chunks i offset chunk left
    → 0 < left
    → count ≡ min left 256 →
    Lends chains chunks i offset chunk left (take count (get_or chunks chunk [])) count
lends chains chunks i offset chunk left count r some is =
    let chain : List ℕ = get_or chains i [] in
    let gone = length-drop offset chain in
    let enough = r.enough in
    let inside : offset < length chain = omega (arith, gone, enough, some) in
    let at = r.at some in
    let has : 0 < occurs (get_or chain offset 0) chains =
    (let a = in_chain chain offset inside in let m = occurs-at (get_or chain offset 0) chains i r.inside in
    omega (arith, a, m)) in
    let there : chunk < length chunks = rw at (r.there (get_or chain offset 0) has) in
    let size = r.whole chunk there in
    let parts : drop offset chain ≡ chunk ∷ drop (offset + 1) chain = rw at (drop_first chain offset inside) in
    record {
      there = there;
      inside = inside;
      long = length-take-le count (get_or chunks chunk []) (omega (arith, is, size));
      bytes = rw parts (split_first chunks chunk (drop (offset + 1) chain) left count size is);
    }

-- so many bytes are left as it says
pub length-rest : (chains chunks : List (List ℕ)) (i offset chunk left : ℕ) → IsRest chains chunks i offset chunk left
    → left ≡ length (rest_bytes chains chunks i offset left)
length-rest chains chunks i offset chunk left r =
    grind (arith, Whole, occurs-at, length-joined, whole_drop, length-take-le)
