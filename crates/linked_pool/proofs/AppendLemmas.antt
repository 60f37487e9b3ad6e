-- A block at the end of a list.
use Rattle.std.proofs.Common.{◌≡◌, ◌≢◌, ℕ, zero, suc, ◌+◌, ◌-◌, ◌<◌, ◌≤◌, eqb, ltb, List, [], ◌∷◌, ◌++◌, length, take}
use Rattle.std.proofs.Common.{drop}
use Rattle.std.proofs.Common.{get_or, set, refl, ap, sym, ◌∙◌, subst, arith, length-append, length-set, length-drop}
use Rattle.std.proofs.lemmas.Bool.{eqb-true, eqb-false, ltb-true, ltb-false}
use Rattle.std.proofs.lemmas.List.{get_or-set_same, get_or-set_other, take-append-drop, length-take-le, nil_from_length}
use Rattle.std.proofs.lemmas.List.{take_all}
use Rattle.std.proofs.lemmas.List.{get_or_append_left, take-append-le, drop-append-le}
use Rattle.linked_pool.specs.Chains.{count, moved}
use Rattle.linked_pool.specs.Pool.{State, chunks_for, list_at, appended}
use Rattle.linked_pool.specs.Blocks.{joined, front_chunks, blocks_of, uses, lists_of, IsPool, view_of}
use Rattle.terms.proofs.CaseLemmas.{bool_cases}
use Rattle.linked_pool.proofs.WalkLemmas.{count-append, count_one, occurs-at, occurs-two, occurs-moved}
use Rattle.linked_pool.proofs.BlockLemmas.{first_in, all-moved, lists-set, rest_at, list_inside, list_is}

pub joined_kept : (chunks chunks' : List (List ℕ)) (chain : List ℕ)
    → ((c : ℕ) → 0 < count c chain → get_or chunks' c [] ≡ get_or chunks c [])
    → joined chunks' chain ≡ joined chunks chain
joined_kept chunks chunks' [] h = refl
joined_kept chunks chunks' (x ∷ chain) h =
    let here = h x (let e = count_one x chain in omega (arith, e)) in
    rw (here, joined_kept chunks chunks' chain (λ c some. h c (omega (arith, some)))) refl

count_parts : (x k : ℕ) (c : List ℕ) → count x (take k c) + count x (drop k c) ≡ count x c
count_parts x k c = sym (count-append x (take k c) (drop k c)) ∙ ap (count x) (take-append-drop k c)

pub blocks_kept : (chunks chunks' : List (List ℕ)) (lens lens' : List ℕ) (n : ℕ) (chain : List ℕ)
    → ((c : ℕ) → 0 < count c chain → get_or chunks' c [] ≡ get_or chunks c []) →
    ((c : ℕ) → 0 < count c chain → get_or lens' c 0 ≡ get_or lens c 0) → uses lens n chain ≡ length chain →
    (blocks_of chunks' lens' n chain ≡ blocks_of chunks lens n chain) × (uses lens' n chain ≡ uses lens n chain)
blocks_kept chunks chunks' lens lens' zero chain h g u = (refl, refl)
blocks_kept chunks chunks' lens lens' (suc n) chain h g u =
    let k : ℕ = front_chunks lens chain in
    let some : 0 < length chain = omega (arith, u) in
    let head : get_or lens' (get_or chain 0 0) 0 ≡ get_or lens (get_or chain 0 0) 0 =
    g (get_or chain 0 0) (first_in chain some) in
    let rest : uses lens n (drop k chain) ≡ length (drop k chain) = omega (arith, u, length-drop k chain) in
    let front : joined chunks' (take k chain) ≡ joined chunks (take k chain) =
    joined_kept chunks chunks' (take k chain) (λ c s. h c (let e = count_parts c k chain in omega (arith, e, s))) in
    let tail =
    blocks_kept chunks chunks' lens lens' n (drop k chain)
    (λ c s. h c (let e = count_parts c k chain in omega (arith, e, s)))
    (λ c s. g c (let e = count_parts c k chain in omega (arith, e, s))) rest in
    (rw (head, front, tail.0) refl, rw (head, tail.1) refl)

pub blocks_append : (chunks : List (List ℕ)) (lens : List ℕ) (n : ℕ) (chain more : List ℕ)
    → uses lens n chain ≡ length chain →
    (blocks_of chunks lens (n + 1) (chain ++ more) ≡ blocks_of chunks lens n chain ++ blocks_of chunks lens 1 more)
    × (uses lens (n + 1) (chain ++ more) ≡ uses lens n chain + uses lens 1 more)
blocks_append chunks lens zero chain more u =
    let none : chain ≡ [] = nil_from_length chain (sym u) in
    let e : 0 + 1 ≡ 1 = omega arith in
    rw (none, e) (refl, omega arith)
blocks_append chunks lens (suc n) chain more u =
    let k : ℕ = front_chunks lens chain in
    let some : 0 < length chain = omega (arith, u) in
    let fits : k ≤ length chain = omega (arith, u) in
    let head : get_or (chain ++ more) 0 0 ≡ get_or chain 0 0 = get_or_append_left chain more 0 0 some in
    let rest : uses lens n (drop k chain) ≡ length (drop k chain) = omega (arith, u, length-drop k chain) in
    let next = blocks_append chunks lens n (drop k chain) more rest in
    let e : suc n + 1 ≡ suc (n + 1) = omega arith in
    let front : take k (chain ++ more) ≡ take k chain = take-append-le k chain more fits in
    let back : drop k (chain ++ more) ≡ drop k chain ++ more = drop-append-le k chain more fits in
    rw (e, head, front, back, next.0, next.1) (refl, omega arith)

rest_set_zero : (cs : List (List ℕ)) (i : ℕ) (x y : List ℕ) → drop 1 (set (set cs 0 y) (i + 1) x) ≡ set (drop 1 cs) i x
rest_set_zero [] i x y = refl
rest_set_zero (c ∷ cs) i x y = let e : i + 1 ≡ suc i = omega arith in rw e refl

-- lists that keep their blocks
pub lists_kept : (chunks chunks' : List (List ℕ)) (lens lens' counts : List ℕ) (chains : List (List ℕ))
    → length chains ≡ length counts →
    ((j : ℕ) → j < length counts → blocks_of chunks' lens' (get_or counts j 0) (get_or chains j [])
    ≡ blocks_of chunks lens (get_or counts j 0) (get_or chains j [])) →
    lists_of chunks' lens' counts chains ≡ lists_of chunks lens counts chains
lists_kept chunks chunks' lens lens' [] chains e h = refl
lists_kept chunks chunks' lens lens' (n ∷ counts) [] e h = absurd (omega arith)
lists_kept chunks chunks' lens lens' (n ∷ counts) (c ∷ chains) e h =
    rw (
      h 0 (omega arith),
      lists_kept chunks chunks' lens lens' counts chains (omega (arith, e))
          (λ j lt. h (suc j) (omega arith)),
    ) refl

-- what was written into the first free chunks
pub record Written (chains chunks chunks' : List (List ℕ)) (lens lens' : List ℕ) (k : ℕ) (block : List ℕ) : Type 0 where
  pub size : k ≡ chunks_for (length block)
  pub enough : k ≤ length (get_or chains 0 [])
  pub same : length chunks' ≡ length chunks
  pub kept : (c : ℕ) → count c (take k (get_or chains 0 [])) ≡ 0 → get_or chunks' c [] ≡ get_or chunks c []
  pub bytes : take (length block) (joined chunks' (take k (get_or chains 0 []))) ≡ block
  pub whole : (c : ℕ) → c < length chunks' → length (get_or chunks' c []) ≡ 256
  pub lens_is : lens' ≡ set lens (get_or (get_or chains 0 []) 0 0) (length block)

pub append_law : (view : State) (chains chunks chunks' chains' : List (List ℕ)) (lens lens' counts : List ℕ) (i k n : ℕ)
    (block : List ℕ) → view ≡ view_of chains chunks lens counts → IsPool chains chunks lens counts
    → i < length view.lists →
    Written chains chunks chunks' lens lens' k block → n ≡ get_or counts i 0 + 1 → chains' ≡ moved chains 0 (i + 1) k →
    IsPool chains' chunks' lens' (set counts i n)
    × (view_of chains' chunks' lens' (set counts i n) ≡ appended view i block)
append_law view chains chunks chunks' chains' lens lens' counts i k n block e p h w more moves =
    let inside = list_inside view chains chunks lens counts i e p h in
    let lists = p.lists in
    let free : List ℕ = get_or chains 0 [] in
    let a : List ℕ = take k free in
    let first : ℕ = get_or free 0 0 in
    let c : List ℕ = get_or chains (i + 1) [] in
    let hi : i + 1 < length chains = omega (arith, lists, inside) in
    let h0 : 0 < length chains = omega (arith, lists) in
    let ne : 0 ≢ i + 1 = (λ z. omega (arith, z)) in
    let size = w.size in
    let some : 0 < k = omega (arith, size) in
    let has : 0 < length free = (let m = w.enough in omega (arith, m, some)) in
    let long_a : length a ≡ k = length-take-le k free w.enough in
    let head_a : get_or a 0 0 ≡ first = (let t = get_or_append_left a (drop k free) 0 0 (omega (arith, long_a, some)) in
    sym t ∙ ap (λ (xs : List ℕ). get_or xs 0 0) (take-append-drop k free)) in
    let first_a : 0 < count first a = subst (λ (x : ℕ). 0 < count x a) head_a
    (first_in a (omega (arith, long_a, some))) in
    let apart : (j x : ℕ) → j < length counts → 0 < count x (get_or chains (j + 1) []) → count x a ≡ 0 =
    λ j x lt there.
    let hj : j + 1 < length chains = omega (arith, lists, lt) in
    let nj : 0 ≢ j + 1 = (λ z. omega (arith, z)) in
    let two = occurs-two x chains 0 (j + 1) h0 hj nj in
    let one = p.apart x in
    let parts = count_parts x k free in
    omega (arith, two, one, parts, there) in
    let kept : (j x : ℕ) → j < length counts → 0 < count x (get_or chains (j + 1) [])
    → get_or chunks' x [] ≡ get_or chunks x [] =
    λ j x lt there. w.kept x (apart j x lt there) in
    let lens_kept : (j x : ℕ) → j < length counts → 0 < count x (get_or chains (j + 1) [])
    → get_or lens' x 0 ≡ get_or lens x 0 =
    λ j x lt there.
    let none = apart j x lt there in
    let nx : x ≢ first = (λ z. let s : 0 < count x a = subst (λ (y : ℕ). 0 < count y a) (sym z) first_a in
    omega (arith, none, s)) in
    rw w.lens_is (get_or-set_other lens first x (length block) 0 nx) in
    let both : (j : ℕ) → j < length counts
    → (blocks_of chunks' lens' (get_or counts j 0) (get_or chains (j + 1) []) ≡ blocks_of chunks lens
    (get_or counts j 0)
    (get_or chains (j + 1) []))
    × (uses lens' (get_or counts j 0) (get_or chains (j + 1) []) ≡ uses lens (get_or counts j 0)
    (get_or chains (j + 1) [])) =
    λ j lt. blocks_kept chunks chunks' lens lens' (get_or counts j 0) (get_or chains (j + 1) []) (λ x t. kept j x lt t)
    (λ x t. lens_kept j x lt t) (p.used j lt) in
    let used_kept : (j : ℕ) → j < length counts → uses lens' (get_or counts j 0) (get_or chains (j + 1) [])
    ≡ length (get_or chains (j + 1) []) = λ j lt. (both j lt).1 ∙ p.used j lt in
    let first_in_range : first < length lens =
    (let m = occurs-at first chains 0 h0 in let t = first_in free has in let same = p.lens_too in
    bool_cases (ltb first (length chunks)) (λ z. let lt = ltb-true first (length chunks) z in omega (arith, lt, same))
    (λ z. let none = p.within first (ltb-false first (length chunks) z) in absurd (omega (arith, m, t, none)))) in
    let len_a : get_or lens' (get_or a 0 0) 0 ≡ length block =
    rw (head_a, w.lens_is) (get_or-set_same lens first (length block) 0 first_in_range) in
    let need_a : front_chunks lens' a ≡ k = ap chunks_for len_a ∙ sym size in
    let whole_a : take (chunks_for (length block)) a ≡ a = ap (λ (m : ℕ). take m a) (sym size)
    ∙ take_all k a (omega (arith, long_a)) in
    let block_a : blocks_of chunks' lens' 1 a ≡ block ∷ [] = rw (len_a, whole_a)
    (ap (λ (b : List ℕ). b ∷ []) w.bytes) in
    let uses_a : uses lens' 1 a ≡ k = ap (λ (m : ℕ). m + 0) need_a ∙ omega arith in
    let joined_list = blocks_append chunks' lens' (get_or counts i 0) c a (used_kept i inside) in
    let n' : get_or counts i 0 + 1 ≡ n = sym more in
    let first_set : List (List ℕ) = set chains 0 (drop k free) in
    let next : List (List ℕ) = moved chains 0 (i + 1) k in
    let long1 : length first_set ≡ length chains = length-set chains 0 (drop k free) in
    let long2 : length next ≡ length chains = length-set first_set (i + 1) (c ++ a) ∙ long1 in
    let hi1 : i + 1 < length first_set = rw long1 hi in
    let nz : (j : ℕ) → j + 1 ≢ 0 = λ j z. omega (arith, z) in
    let counts' : List ℕ = set counts i n in
    let used : (j : ℕ) → j < length counts' → uses lens' (get_or counts' j 0) (get_or next (j + 1) [])
    ≡ length (get_or next (j + 1) []) =
    λ j lt0. let lt : j < length counts = rw (length-set counts i n) at lt0 in
    bool_cases (eqb j i)
    (λ z. let same : i ≡ j = sym (eqb-true j i z) in
    let x : get_or next (i + 1) [] ≡ c ++ a = get_or-set_same first_set (i + 1) (c ++ a) [] hi1 in
    let y : get_or counts' i 0 ≡ get_or counts i 0 + 1 = get_or-set_same counts i n 0 inside ∙ more in
    let sum : uses lens' (get_or counts i 0 + 1) (c ++ a) ≡ length (c ++ a) =
    joined_list.1 ∙ (let l = length-append c a in let u = used_kept i inside in omega (arith, l, u, uses_a, long_a)) in
    let here : uses lens' (get_or counts' i 0) (get_or next (i + 1) []) ≡ length (get_or next (i + 1) []) =
    rw (x, y) sum in
    subst (λ (m : ℕ). uses lens' (get_or counts' m 0) (get_or next (m + 1) []) ≡ length (get_or next (m + 1) []))
    same here)
    (λ z. let other : j ≢ i = eqb-false j i z in
    let nx : j + 1 ≢ i + 1 = (λ v. other (omega (arith, v))) in
    let x : get_or next (j + 1) [] ≡ get_or chains (j + 1) [] = get_or-set_other first_set (i + 1) (j + 1)
    (c ++ a) [] nx
    ∙ get_or-set_other chains 0 (j + 1) (drop k free) [] (nz j) in
    let y : get_or counts' j 0 ≡ get_or counts j 0 = get_or-set_other counts i j n 0 other in
    rw (x, y) (used_kept j lt)) in
    let pool : IsPool next chunks' lens' counts' = record {
      lists = rw (length-set counts i n) (long2 ∙ lists);
      lens_too = ap length w.lens_is ∙ length-set lens first (length block) ∙ p.lens_too ∙ sym w.same;
      few_chunks = rw w.same p.few_chunks;
      apart = λ x. rw (occurs-moved x chains 0 (i + 1) k h0 hi ne) (p.apart x);
      within = λ x out. let out' : length chunks ≤ x = rw w.same at out in
          rw (occurs-moved x chains 0 (i + 1) k h0 hi ne) (p.within x out');
      all = all-moved chains 0 (i + 1) k h0 hi ne ∙ p.all ∙ sym w.same;
      used = used;
      size = w.whole;
    } in
    let rests : length (drop 1 chains) ≡ length counts = omega (arith, lists, length-drop 1 chains) in
    let kept_lists : lists_of chunks' lens' counts (drop 1 chains) ≡ lists_of chunks lens counts (drop 1 chains) =
    lists_kept chunks chunks' lens lens' counts (drop 1 chains) rests (λ j lt. rw (rest_at chains j) ((both j lt).0)) in
    let new_list : blocks_of chunks' lens' n (c ++ a) ≡ list_at view i ++ block ∷ [] =
    ap (λ (m : ℕ). blocks_of chunks' lens' m (c ++ a)) more ∙ joined_list.0
    ∙ rw (block_a, (both i inside).0, list_is view chains chunks lens counts i e p inside) refl in
    let new_lists : lists_of chunks' lens' counts' (drop 1 next) ≡ set view.lists i (list_at view i ++ block ∷ []) =
    ap (lists_of chunks' lens' counts') (rest_set_zero chains i (c ++ a) (drop k free))
    ∙ lists-set chunks' lens' counts (drop 1 chains) i n (c ++ a) rests
    ∙ rw (new_list, kept_lists) (ap (λ (v : State). set v.lists i (list_at view i ++ block ∷ [])) (sym e)) in
    let free' : get_or next 0 [] ≡ drop k free = get_or-set_other first_set (i + 1) 0 (c ++ a) [] ne
    ∙ get_or-set_same chains 0 (drop k free) [] h0 in
    let spare : length (get_or next 0 []) ≡ view.spare - chunks_for (length block) =
    ap length free' ∙ length-drop k free ∙ ap (λ (m : ℕ). length free - m) size
    ∙ ap (λ (v : State). v.spare - chunks_for (length block)) (sym e) in
    let opened : length chunks' ≡ view.opened = w.same ∙ ap (λ (v : State). v.opened) (sym e) in
    (rw moves pool, rw (moves, new_lists, spare, opened) refl)
