-- Blocks along chains.
use Rattle.std.proofs.Common.{◌≡◌, ◌≢◌, ℕ, zero, suc, ◌+◌, ◌-◌, ◌*◌, ◌<◌, ◌≤◌, eqb, ltb, List, [], ◌∷◌, ◌++◌, length}
use Rattle.std.proofs.Common.{take, drop}
use Rattle.std.proofs.Common.{get_or, set, refl, ap, sym, ◌∙◌, subst, arith, length-append, length-set, length-drop}
use Rattle.std.proofs.lemmas.Bool.{eqb-true, eqb-false, ltb-true, ltb-false}
use Rattle.std.proofs.lemmas.List.{get_or-set_same, get_or-set_other, take-append-drop, length-take-le, set-get_or}
use Rattle.std.proofs.lemmas.List.{take_all}
use Rattle.std.proofs.lemmas.List.{nil_from_length, drop_all, get_or_past}
use Rattle.std.proofs.lemmas.List.Sums.{sum_by-cons}
use Rattle.linked_pool.specs.Chains.{count, moved}
use Rattle.linked_pool.specs.Pool.{State, popped, cleared, chunks_for, chunks_of, list_at, used_chunks, IsWhole}
use Rattle.linked_pool.specs.Blocks.{joined, front_chunks, blocks_of, uses, lists_of, IsPool, view_of, without, all_of}
use Rattle.terms.proofs.CaseLemmas.{bool_cases}
use Rattle.linked_pool.proofs.WalkLemmas.{count-append, count_one, occurs-at, occurs-moved}

pub all-set : (cs : List (List ℕ)) (i : ℕ) (c : List ℕ) → i < length cs → all_of (set cs i c) + length (get_or cs i [])
    ≡ all_of cs + length c
all-set [] i c h = absurd (omega arith)
all-set (d ∷ cs) zero c h = omega arith
all-set (d ∷ cs) (suc i) c h = let m = all-set cs i c (omega arith) in omega (arith, m)

pub all-at : (cs : List (List ℕ)) (i : ℕ) → i < length cs → length (get_or cs i []) ≤ all_of cs
all-at [] i h = absurd (omega arith)
all-at (c ∷ cs) zero h = omega arith
all-at (c ∷ cs) (suc i) h = let m = all-at cs i (omega arith) in omega (arith, m)

pub all-moved : (cs : List (List ℕ)) (a b n : ℕ) → a < length cs → b < length cs → a ≢ b
    → all_of (moved cs a b n) ≡ all_of cs
all-moved cs a b n ha hb ne =
    let c : List ℕ = get_or cs a [] in
    let d : List ℕ = get_or cs b [] in
    let first = all-set cs a (drop n c) ha in
    let long : b < length (set cs a (drop n c)) = rw (length-set cs a (drop n c)) hb in
    let second = all-set (set cs a (drop n c)) b (d ++ take n c) long in
    let kept : get_or (set cs a (drop n c)) b [] ≡ d = get_or-set_other cs a b (drop n c) [] (λ e. ne (sym e)) in
    let third : all_of (moved cs a b n) + length d ≡ all_of (set cs a (drop n c)) + length (d ++ take n c) =
    rw kept at second in
    let joined = length-append d (take n c) in
    let parts : length (take n c) + length (drop n c) ≡ length c = sym (length-append (take n c) (drop n c))
    ∙ ap length (take-append-drop n c) in
    omega (arith, first, third, joined, parts)

-- all chunks of a chain are there
pub record Whole (chunks : List (List ℕ)) (chain : List ℕ) : Type 0 where
  pub at : (c : ℕ) → 0 < count c chain → length (get_or chunks c []) ≡ 256

pub whole_tail : (chunks : List (List ℕ)) (c : ℕ) (chain : List ℕ) → Whole chunks (c ∷ chain) → Whole chunks chain
whole_tail chunks c chain w = record { at = λ x h. w.at x (omega (arith, h)) }

pub whole_drop : (chunks : List (List ℕ)) (k : ℕ) (chain : List ℕ) → Whole chunks chain → Whole chunks (drop k chain)
whole_drop chunks k chain w =
    record {
      at = λ x h.
          let parts : count x (take k chain) + count x (drop k chain) ≡ count x chain =
          sym (count-append x (take k chain) (drop k chain)) ∙ ap (count x) (take-append-drop k chain) in
          w.at x (omega (arith, parts, h));
    }

pub whole_take : (chunks : List (List ℕ)) (k : ℕ) (chain : List ℕ) → Whole chunks chain → Whole chunks (take k chain)
whole_take chunks k chain w =
    record {
      at = λ x h.
          let parts : count x (take k chain) + count x (drop k chain) ≡ count x chain =
          sym (count-append x (take k chain) (drop k chain)) ∙ ap (count x) (take-append-drop k chain) in
          w.at x (omega (arith, parts, h));
    }

pub length-joined : (chunks : List (List ℕ)) (chain : List ℕ) → Whole chunks chain → length (joined chunks chain)
    ≡ 256 * length chain
length-joined chunks [] w = omega arith
length-joined chunks (c ∷ chain) w =
    let here : 0 < count c (c ∷ chain) = (let e = count_one c chain in omega (arith, e)) in
    length-append (get_or chunks c []) (joined chunks chain)
    ∙ omega (arith, w.at c here, length-joined chunks chain (whole_tail chunks c chain w))

-- a block is as long as it says
pub length-block : (chunks : List (List ℕ)) (lens chain : List ℕ) → Whole chunks chain
    → front_chunks lens chain ≤ length chain →
    length (take (get_or lens (get_or chain 0 0) 0) (joined chunks (take (front_chunks lens chain) chain)))
    ≡ get_or lens (get_or chain 0 0) 0
length-block chunks lens chain w h = grind (arith, length-joined, whole_take, length-take-le)

pub chunks_of-cons : (block : List ℕ) (blocks : List (List ℕ)) → chunks_of (block ∷ blocks) ≡ chunks_for (length block)
    + chunks_of blocks
chunks_of-cons block blocks = sum_by-cons (λ (b : List ℕ). chunks_for (length b)) block blocks

pub used_chunks-cons : (blocks : List (List ℕ)) (lists : List (List (List ℕ)))
    → used_chunks (blocks ∷ lists) ≡ chunks_of blocks
    + used_chunks lists
used_chunks-cons blocks lists = sum_by-cons chunks_of blocks lists

-- the chunks of blocks along a chain
pub chunks_of-blocks_of : (chunks : List (List ℕ)) (lens : List ℕ) (n : ℕ) (chain : List ℕ) → Whole chunks chain
    → uses lens n chain ≡ length chain → chunks_of (blocks_of chunks lens n chain) ≡ length chain
chunks_of-blocks_of chunks lens zero chain w e = e
chunks_of-blocks_of chunks lens (suc n) chain w e =
    let k : ℕ = front_chunks lens chain in
    let fits : k ≤ length chain = omega (arith, e) in
    let rest : uses lens n (drop k chain) ≡ length (drop k chain) = omega (arith, e, length-drop k chain) in
    let tail = chunks_of-blocks_of chunks lens n (drop k chain) (whole_drop chunks k chain w) rest in
    let block = length-block chunks lens chain w fits in
    rw (chunks_of-cons _ (blocks_of chunks lens n (drop k chain)), block, tail)
    (omega (arith, fits, length-drop k chain))

pub lists-set : (chunks : List (List ℕ)) (lens counts : List ℕ) (chains : List (List ℕ)) (i n : ℕ) (c : List ℕ)
    → length chains ≡ length counts →
    lists_of chunks lens (set counts i n) (set chains i c) ≡ set (lists_of chunks lens counts chains) i
    (blocks_of chunks lens n c)
lists-set chunks lens [] chains i n c e = refl
lists-set chunks lens (m ∷ counts) [] i n c e = absurd (omega arith)
lists-set chunks lens (m ∷ counts) (d ∷ chains) zero n c e = refl
lists-set chunks lens (m ∷ counts) (d ∷ chains) (suc i) n c e = ap (λ (xs : List (List (List ℕ))). blocks_of
    chunks lens m d ∷ xs)
    (lists-set chunks lens counts chains i n c (omega (arith, e)))

pub get_or-lists_of : (chunks : List (List ℕ)) (lens counts : List ℕ) (chains : List (List ℕ)) (i : ℕ)
    → length chains ≡ length counts → i < length counts →
    get_or (lists_of chunks lens counts chains) i [] ≡ blocks_of chunks lens (get_or counts i 0) (get_or chains i [])
get_or-lists_of chunks lens [] chains i e h = absurd (omega arith)
get_or-lists_of chunks lens (m ∷ counts) [] i e h = absurd (omega arith)
get_or-lists_of chunks lens (m ∷ counts) (d ∷ chains) zero e h = refl
get_or-lists_of chunks lens (m ∷ counts) (d ∷ chains) (suc i) e h = get_or-lists_of chunks lens counts
    chains i (omega (arith, e))
    (omega arith)

pub length-lists_of : (chunks : List (List ℕ)) (lens counts : List ℕ) (chains : List (List ℕ))
    → length chains ≡ length counts
    → length (lists_of chunks lens counts chains) ≡ length counts
length-lists_of chunks lens [] chains e = refl
length-lists_of chunks lens (m ∷ counts) [] e = absurd (omega arith)
length-lists_of chunks lens (m ∷ counts) (d ∷ chains) e = ap suc (length-lists_of chunks lens counts
    chains (omega (arith, e)))

-- the chains of the lists stand behind the free chain
pub rest_at : (cs : List (List ℕ)) (i : ℕ) → get_or (drop 1 cs) i [] ≡ get_or cs (i + 1) []
rest_at [] i = sym (get_or_past [] (i + 1) [] (omega arith)) ∙ refl
rest_at (c ∷ cs) i = let e : suc i ≡ i + 1 = omega arith in ap (λ (k : ℕ). get_or (c ∷ cs) k []) e

pub rest_set : (cs : List (List ℕ)) (i : ℕ) (x y : List ℕ) → drop 1 (set (set cs (i + 1) x) 0 y) ≡ set (drop 1 cs) i x
rest_set [] i x y = refl
rest_set (c ∷ cs) i x y = let e : i + 1 ≡ suc i = omega arith in rw e refl

-- what is the chain of a list
pub whole_at : (chains chunks : List (List ℕ)) (lens counts : List ℕ) (i : ℕ) → IsPool chains chunks lens counts
    → i < length chains → Whole chunks (get_or chains i [])
whole_at chains chunks lens counts i p h =
    record {
      at = λ c some.
          let m = occurs-at c chains i h in
          bool_cases (ltb c (length chunks)) (λ e. p.size c (ltb-true c (length chunks) e))
          (λ e. let none = p.within c (ltb-false c (length chunks) e) in absurd (omega (arith, m, none, some)));
    }

pub record Shrunk (chains chunks : List (List ℕ)) (lens counts : List ℕ) (i k m : ℕ) : Type 0 where
  pub pool : IsPool (moved chains (i + 1) 0 k) chunks lens (set counts i m)
  pub lists : lists_of chunks lens (set counts i m) (drop 1 (moved chains (i + 1) 0 k))
      ≡ set (lists_of chunks lens counts (drop 1 chains)) i
      (blocks_of chunks lens m (drop k (get_or chains (i + 1) [])))
  pub spare : length (get_or (moved chains (i + 1) 0 k) 0 []) ≡ length (get_or chains 0 []) + k

-- the first chunks of a list's chain become free
pub shrunk : (chains chunks : List (List ℕ)) (lens counts : List ℕ) (i k m : ℕ) → IsPool chains chunks lens counts
    → i < length counts → k ≤ length (get_or chains (i + 1) []) →
    uses lens m (drop k (get_or chains (i + 1) [])) ≡ length (drop k (get_or chains (i + 1) []))
    → Shrunk chains chunks lens counts i k m
shrunk chains chunks lens counts i k m p h le u =
    let c : List ℕ = get_or chains (i + 1) [] in
    let free : List ℕ = get_or chains 0 [] in
    let first : List (List ℕ) = set chains (i + 1) (drop k c) in
    let chains' : List (List ℕ) = moved chains (i + 1) 0 k in
    let lists = p.lists in
    let hi : i + 1 < length chains = omega (arith, lists, h) in
    let h0 : 0 < length chains = omega (arith, lists) in
    let ne : i + 1 ≢ 0 = (λ e. omega (arith, e)) in
    let long : length first ≡ length chains = length-set chains (i + 1) (drop k c) in
    let long' : length chains' ≡ length chains = length-set first 0 (free ++ take k c) ∙ long in
    let rests : length (drop 1 chains) ≡ length counts = omega (arith, lists, length-drop 1 chains) in
    let zero_in : 0 < length first = rw long h0 in
    let at_zero : get_or chains' 0 [] ≡ free ++ take k c = get_or-set_same first 0 (free ++ take k c) [] zero_in in
    let counts' : List ℕ = set counts i m in
    let used : (j : ℕ) → j < length counts' → uses lens (get_or counts' j 0) (get_or chains' (j + 1) [])
    ≡ length (get_or chains' (j + 1) []) =
    λ j lt0. let lt : j < length counts = rw (length-set counts i m) at lt0 in
    let nz : j + 1 ≢ 0 = (λ e. omega (arith, e)) in
    let a : get_or chains' (j + 1) [] ≡ get_or first (j + 1) [] = get_or-set_other first 0 (j + 1) (free ++ take k c)
    [] nz in
    rw a
    (bool_cases (eqb j i)
    (λ e. let same : i ≡ j = sym (eqb-true j i e) in
    let x : get_or first (i + 1) [] ≡ drop k c = get_or-set_same chains (i + 1) (drop k c) [] hi in
    let y : get_or counts' i 0 ≡ m = get_or-set_same counts i m 0 h in
    let here : uses lens (get_or counts' i 0) (get_or first (i + 1) []) ≡ length (get_or first (i + 1) []) =
    rw (x, y) u in
    subst (λ (z : ℕ). uses lens (get_or counts' z 0) (get_or first (z + 1) []) ≡ length (get_or first (z + 1) []))
    same here)
    (λ e. let other : j ≢ i = eqb-false j i e in
    let nx : j + 1 ≢ i + 1 = (λ z. other (omega (arith, z))) in
    let x : get_or first (j + 1) [] ≡ get_or chains (j + 1) [] = get_or-set_other chains (i + 1) (j + 1)
    (drop k c) [] nx in
    let y : get_or counts' j 0 ≡ get_or counts j 0 = get_or-set_other counts i j m 0 other in
    rw (x, y) (p.used j lt))) in
    record {
      pool = record {
        lists = rw (length-set counts i m) (long' ∙ lists);
        lens_too = p.lens_too;
        few_chunks = p.few_chunks;
        apart = λ x. rw (occurs-moved x chains (i + 1) 0 k hi h0 ne) (p.apart x);
        within = λ x w. rw (occurs-moved x chains (i + 1) 0 k hi h0 ne) (p.within x w);
        all = all-moved chains (i + 1) 0 k hi h0 ne ∙ p.all;
        used = used;
        size = p.size;
      };
      lists = ap (lists_of chunks lens counts') (rest_set chains i (drop k c) (free ++ take k c))
          ∙ lists-set chunks lens counts (drop 1 chains) i m (drop k c) rests;
      spare = ap length at_zero ∙ length-append free (take k c) ∙ ap (λ (n : ℕ). length free + n)
          (length-take-le k c le);
    }

-- a list is emptied
pub clear_shrinks : (chains chunks : List (List ℕ)) (lens counts : List ℕ) (i : ℕ) → IsPool chains chunks lens counts
    → i < length counts →
    Shrunk chains chunks lens counts i (length (get_or chains (i + 1) [])) 0
clear_shrinks chains chunks lens counts i p h =
    let c : List ℕ = get_or chains (i + 1) [] in
    let none = length-drop (length c) c in
    shrunk chains chunks lens counts i (length c) 0 p h (omega arith) (omega (arith, none))

-- a list's place, and its chain's
pub list_inside : (view : State) (chains chunks : List (List ℕ)) (lens counts : List ℕ) (i : ℕ)
    → view ≡ view_of chains chunks lens counts → IsPool chains chunks lens counts → i < length view.lists
    → i < length counts
list_inside view chains chunks lens counts i e p h =
    let a : i < length (lists_of chunks lens counts (drop 1 chains)) = rw e at h in
    let lists = p.lists in
    let rests : length (drop 1 chains) ≡ length counts = omega (arith, lists, length-drop 1 chains) in
    rw (length-lists_of chunks lens counts (drop 1 chains) rests) at a

pub list_is : (view : State) (chains chunks : List (List ℕ)) (lens counts : List ℕ) (i : ℕ)
    → view ≡ view_of chains chunks lens counts → IsPool chains chunks lens counts → i < length counts →
    list_at view i ≡ blocks_of chunks lens (get_or counts i 0) (get_or chains (i + 1) [])
list_is view chains chunks lens counts i e p h =
    let lists = p.lists in
    let rests : length (drop 1 chains) ≡ length counts = omega (arith, lists, length-drop 1 chains) in
    ap (λ (v : State). list_at v i) e ∙ get_or-lists_of chunks lens counts (drop 1 chains) i rests h
    ∙ ap (blocks_of chunks lens (get_or counts i 0)) (rest_at chains i)

pub length-blocks_of : (chunks : List (List ℕ)) (lens : List ℕ) (n : ℕ) (chain : List ℕ)
    → length (blocks_of chunks lens n chain)
    ≡ n
length-blocks_of chunks lens zero chain = refl
length-blocks_of chunks lens (suc n) chain = ap suc (length-blocks_of chunks lens n
    (drop (front_chunks lens chain) chain))

pub count_is : (view : State) (chains chunks : List (List ℕ)) (lens counts : List ℕ) (i : ℕ)
    → view ≡ view_of chains chunks lens counts → IsPool chains chunks lens counts → i < length view.lists →
    get_or counts i 0 ≡ length (list_at view i)
count_is view chains chunks lens counts i e p h =
    let inside = list_inside view chains chunks lens counts i e p h in
    sym (ap length (list_is view chains chunks lens counts i e p inside)
    ∙ length-blocks_of chunks lens (get_or counts i 0)
    (get_or chains (i + 1) []))

-- the view after the first chunks of a list became free
pub without_is : (view : State) (chains chunks chains' : List (List ℕ)) (lens counts counts' : List ℕ) (i k m n : ℕ)
    → view ≡ view_of chains chunks lens counts → IsPool chains chunks lens counts → i < length counts →
    Shrunk chains chunks lens counts i k m → chains' ≡ moved chains (i + 1) 0 k → counts' ≡ set counts i m →
    blocks_of chunks lens m (drop k (get_or chains (i + 1) [])) ≡ drop n (list_at view i)
    → k ≡ chunks_of (take n (list_at view i)) →
    view_of chains' chunks lens counts' ≡ without view i n
without_is view chains chunks chains' lens counts counts' i k m n e p h s ce ne blocks spare = grind arith

-- the first of some blocks
pub record Front (chains chunks : List (List ℕ)) (lens counts : List ℕ) (i : ℕ) : Type 0 where
  pub fits : front_chunks lens (get_or chains (i + 1) []) ≤ length (get_or chains (i + 1) [])
  pub rest : uses lens (get_or counts i 0 - 1) (drop (front_chunks lens (get_or chains (i + 1) []))
      (get_or chains (i + 1) []))
      ≡ length (drop (front_chunks lens (get_or chains (i + 1) [])) (get_or chains (i + 1) []))
  pub blocks : blocks_of chunks lens (get_or counts i 0 - 1)
      (drop (front_chunks lens (get_or chains (i + 1) [])) (get_or chains (i + 1) []))
      ≡ drop 1 (blocks_of chunks lens (get_or counts i 0) (get_or chains (i + 1) []))
  pub size : front_chunks lens (get_or chains (i + 1) [])
      ≡ chunks_of (take 1 (blocks_of chunks lens (get_or counts i 0) (get_or chains (i + 1) [])))

front_of : (chunks : List (List ℕ)) (lens : List ℕ) (n : ℕ) (c : List ℕ) → Whole chunks c → 0 < n
    → uses lens n c ≡ length c →
    (front_chunks lens c ≤ length c) × (uses lens (n - 1) (drop (front_chunks lens c) c) ≡ length
    (drop (front_chunks lens c) c))
    × (blocks_of chunks lens (n - 1) (drop (front_chunks lens c) c) ≡ drop 1 (blocks_of chunks lens n c))
    × (front_chunks lens c ≡ chunks_of (take 1 (blocks_of chunks lens n c)))
front_of chunks lens zero c w h u = absurd (omega arith)
front_of chunks lens (suc m) c w h u =
    let k : ℕ = front_chunks lens c in
    let less : suc m - 1 ≡ m = omega arith in
    let fits : k ≤ length c = omega (arith, u) in
    let gone = length-drop k c in
    let block = length-block chunks lens c w fits in
    (fits, rw less (omega (arith, u, gone)), rw less refl, sym (ap (λ (l : ℕ). 0 + chunks_for l) block ∙ omega arith))

pub front : (chains chunks : List (List ℕ)) (lens counts : List ℕ) (i : ℕ) → IsPool chains chunks lens counts
    → i < length counts
    → 0 < get_or counts i 0 → Front chains chunks lens counts i
front chains chunks lens counts i p h some =
    let lists = p.lists in
    let hi : i + 1 < length chains = omega (arith, lists, h) in
    let x = front_of chunks lens (get_or counts i 0) (get_or chains (i + 1) [])
    (whole_at chains chunks lens counts (i + 1) p hi)
    some (p.used i h) in
    record { fits = x.0; rest = x.1; blocks = x.2; size = x.3 }

pub pop_shrinks : (chains chunks : List (List ℕ)) (lens counts : List ℕ) (i : ℕ) → IsPool chains chunks lens counts
    → i < length counts → 0 < get_or counts i 0 →
    Shrunk chains chunks lens counts i (front_chunks lens (get_or chains (i + 1) [])) (get_or counts i 0 - 1)
pop_shrinks chains chunks lens counts i p h some =
    let f = front chains chunks lens counts i p h some in
    shrunk chains chunks lens counts i (front_chunks lens (get_or chains (i + 1) [])) (get_or counts i 0 - 1)
    p h f.fits f.rest

-- a list without blocks
pub empty_without : (view : State) (i : ℕ) → length (list_at view i) ≡ 0 → view ≡ popped view i
empty_without view i none = grind (arith, nil_from_length, set-get_or)

-- without its blocks
without_all : (view : State) (i : ℕ) → without view i (length (list_at view i)) ≡ cleared view i
without_all view i = grind (arith, drop_all, take_all)

pub clear_law : (view : State) (chains chunks chains' : List (List ℕ)) (lens counts : List ℕ) (i k : ℕ)
    → view ≡ view_of chains chunks lens counts → IsPool chains chunks lens counts → i < length view.lists →
    k ≡ length (get_or chains (i + 1) []) → chains' ≡ moved chains (i + 1) 0 k →
    IsPool chains' chunks lens (set counts i 0) × (view_of chains' chunks lens (set counts i 0) ≡ cleared view i)
clear_law view chains chunks chains' lens counts i k e p h size moves =
    let inside = list_inside view chains chunks lens counts i e p h in
    let lists = p.lists in
    let hi : i + 1 < length chains = omega (arith, lists, inside) in
    let c : List ℕ = get_or chains (i + 1) [] in
    let s = clear_shrinks chains chunks lens counts i p inside in
    let moves' : chains' ≡ moved chains (i + 1) 0 (length c) = moves ∙ ap (moved chains (i + 1) 0) size in
    let bs : List (List ℕ) = list_at view i in
    let is = list_is view chains chunks lens counts i e p inside in
    let none : [] ≡ drop (length bs) bs = sym (drop_all (length bs) bs (omega arith)) in
    let all : length c ≡ chunks_of (take (length bs) bs) =
    sym (ap chunks_of (take_all (length bs) bs (omega arith) ∙ is) ∙ chunks_of-blocks_of chunks lens
    (get_or counts i 0) c
    (whole_at chains chunks lens counts (i + 1) p hi) (p.used i inside)) in (
      rw moves' s.pool,
      without_is view chains chunks chains' lens counts (set counts i 0) i (length c) 0
          (length bs) e p inside s moves' refl none all ∙ without_all view i,
    )

pub pop_law : (view : State) (chains chunks chains' : List (List ℕ)) (lens counts : List ℕ) (i k n : ℕ)
    → view ≡ view_of chains chunks lens counts → IsPool chains chunks lens counts → i < length view.lists →
    0 < get_or counts i 0 → k ≡ front_chunks lens (get_or chains (i + 1) []) → n ≡ get_or counts i 0 - 1
    → chains' ≡ moved chains (i + 1) 0 k →
    IsPool chains' chunks lens (set counts i n) × (view_of chains' chunks lens (set counts i n) ≡ popped view i)
pop_law view chains chunks chains' lens counts i k n e p h some size less moves =
    let inside = list_inside view chains chunks lens counts i e p h in
    let c : List ℕ = get_or chains (i + 1) [] in
    let s = pop_shrinks chains chunks lens counts i p inside some in
    let f = front chains chunks lens counts i p inside some in
    let moves' : chains' ≡ moved chains (i + 1) 0 (front_chunks lens c) = moves ∙ ap (moved chains (i + 1) 0) size in
    let is = list_is view chains chunks lens counts i e p inside in
    let rest : blocks_of chunks lens (get_or counts i 0 - 1) (drop (front_chunks lens c) c) ≡ drop 1 (list_at view i) =
    f.blocks ∙ ap (drop 1) (sym is) in
    let all : front_chunks lens c ≡ chunks_of (take 1 (list_at view i)) =
    f.size ∙ ap (λ (bs : List (List ℕ)). chunks_of (take 1 bs)) (sym is) in
    let set_is : set counts i n ≡ set counts i (get_or counts i 0 - 1) = ap (set counts i) less in (
      rw (moves', less) s.pool,
      without_is view chains chunks chains' lens counts (set counts i n) i (front_chunks lens c)
          (get_or counts i 0 - 1) 1 e p inside s moves' set_is rest all,
    )

-- the first chunk of a list with a block
pub first_in : (c : List ℕ) → 0 < length c → 0 < count (get_or c 0 0) c
first_in [] h = absurd (omega arith)
first_in (x ∷ c) h = let e = count_one x c in omega (arith, e)

pub chunk_inside : (chains chunks : List (List ℕ)) (lens counts : List ℕ) (i : ℕ) → IsPool chains chunks lens counts
    → i < length counts → 0 < get_or counts i 0 →
    get_or (get_or chains (i + 1) []) 0 0 < length lens
chunk_inside chains chunks lens counts i p h some =
    let f = front chains chunks lens counts i p h some in
    let lists = p.lists in
    let hi : i + 1 < length chains = omega (arith, lists, h) in
    let c : List ℕ = get_or chains (i + 1) [] in
    let has : 0 < length c = omega (arith, f.fits) in
    let here = first_in c has in
    let m = occurs-at (get_or c 0 0) chains (i + 1) hi in
    let same = p.lens_too in
    bool_cases (ltb (get_or c 0 0) (length chunks)) (λ e. let lt = ltb-true (get_or c 0 0) (length chunks)
    e in rw same lt)
    (λ e. let none = p.within (get_or c 0 0) (ltb-false (get_or c 0 0) (length chunks) e) in
    absurd (omega (arith, m, none, here)))

-- there are no more blocks than chunks
pub count-uses : (lens : List ℕ) (n : ℕ) (chain : List ℕ) → n ≤ uses lens n chain
count-uses lens zero chain = omega arith
count-uses lens (suc n) chain = let m = count-uses lens n (drop (front_chunks lens chain) chain) in omega (arith, m)

pub count_small : (chains chunks : List (List ℕ)) (lens counts : List ℕ) (i : ℕ) → IsPool chains chunks lens counts
    → i < length counts → get_or counts i 0 ≤ length chunks
count_small chains chunks lens counts i p h =
    let lists = p.lists in
    let hi : i + 1 < length chains = omega (arith, lists, h) in
    let a = count-uses lens (get_or counts i 0) (get_or chains (i + 1) []) in
    let b = p.used i h in
    let c = all-at chains (i + 1) hi in
    let d = p.all in
    omega (arith, a, b, c, d)

-- the chunks of all blocks are those of their chains
used_lists : (chunks : List (List ℕ)) (lens counts : List ℕ) (chains : List (List ℕ)) → length chains ≡ length counts
    → ((i : ℕ) → i < length counts → Whole chunks (get_or chains i [])) →
    ((i : ℕ) → i < length counts → uses lens (get_or counts i 0) (get_or chains i []) ≡ length (get_or chains i []))
    → used_chunks (lists_of chunks lens counts chains) ≡ all_of chains
used_lists chunks lens [] [] e w u = refl
used_lists chunks lens [] (c ∷ chains) e w u = absurd (omega (arith, e))
used_lists chunks lens (n ∷ counts) [] e w u = absurd (omega (arith, e))
used_lists chunks lens (n ∷ counts) (c ∷ chains) e w u =
    let here = chunks_of-blocks_of chunks lens n c (w 0 (omega arith)) (u 0 (omega arith)) in
    let rest = used_lists chunks lens counts chains (omega (arith, e)) (λ i lt. w (suc i) (omega arith))
    (λ i lt. u (suc i) (omega arith)) in
    omega (arith, used_chunks-cons (blocks_of chunks lens n c) (lists_of chunks lens counts chains), here, rest)

all_parts : (cs : List (List ℕ)) → 0 < length cs → length (get_or cs 0 []) + all_of (drop 1 cs) ≡ all_of cs
all_parts [] h = absurd (omega arith)
all_parts (c ∷ cs) h = refl

pub whole_law : (view : State) (chains chunks : List (List ℕ)) (lens counts : List ℕ)
    → view ≡ view_of chains chunks lens counts
    → IsPool chains chunks lens counts → IsWhole view
whole_law view chains chunks lens counts e p =
    let lists = p.lists in
    let rests : length (drop 1 chains) ≡ length counts = omega (arith, lists, length-drop 1 chains) in
    let each = used_lists chunks lens counts (drop 1 chains) rests
    (λ i lt. rw (rest_at chains i) (whole_at chains chunks lens counts (i + 1) p (omega (arith, lists, lt))))
    (λ i lt. rw (rest_at chains i) (p.used i lt)) in
    let parts = all_parts chains (omega (arith, lists)) in
    rw e (omega (arith, each, parts, p.all))
