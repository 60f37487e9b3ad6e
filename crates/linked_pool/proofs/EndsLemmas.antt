-- The last chunk of each block.
use Rattle.std.proofs.Common.{◌≡◌, ◌≢◌, ℕ, zero, suc, ◌+◌, ◌-◌, ◌<◌, ◌≤◌, eqb, ltb, List, [], ◌++◌, length, take, drop}
use Rattle.std.proofs.Common.{get_or}
use Rattle.std.proofs.Common.{set, replicate, refl, ap, sym, ◌∙◌, subst, arith, length-append, length-set, length-drop}
use Rattle.std.proofs.lemmas.Bool.{eqb-true, eqb-false, ltb-true, ltb-false}
use Rattle.std.proofs.lemmas.List.{get_or-set_same, get_or-set_other, take-append-drop, length-take-le, nil_from_length}
use Rattle.std.proofs.lemmas.List.{drop-append-le, get_or_append_left, get_or-append-add}
use Rattle.linked_pool.specs.Chains.{count, moved}
use Rattle.linked_pool.specs.Pool.{chunks_for}
use Rattle.linked_pool.specs.Blocks.{front_chunks, uses, IsPool, Ends, AreEnds}
use Rattle.terms.proofs.CaseLemmas.{bool_cases}
use Rattle.linked_pool.proofs.WalkLemmas.{count-append, occurs-at, occurs-two}
use Rattle.linked_pool.proofs.AppendLemmas.{blocks_kept}
use Rattle.linked_pool.proofs.FillLemmas.{in_chain}
use Rattle.linked_pool.proofs.OpenLemmas.{zero_at}

-- without the first block
pub ends_rest : (lens lasts : List ℕ) (n : ℕ) (chain : List ℕ) → 0 < n → Ends lens lasts n chain
    → Ends lens lasts (n - 1) (drop (front_chunks lens chain) chain)
ends_rest lens lasts zero chain some e = absurd (omega arith)
ends_rest lens lasts (suc n) chain some e = let less : suc n - 1 ≡ n = omega arith in rw less e.1

pub ends_kept : (lens lens' lasts lasts' : List ℕ) (n : ℕ) (chain : List ℕ)
    → ((c : ℕ) → 0 < count c chain → get_or lens' c 0 ≡ get_or lens c 0)
    → ((c : ℕ) → 0 < count c chain → get_or lasts' c 0 ≡ get_or lasts c 0)
    → uses lens n chain ≡ length chain → Ends lens lasts n chain → Ends lens' lasts' n chain
ends_kept lens lens' lasts lasts' zero chain g h u e = tt
ends_kept lens lens' lasts lasts' (suc n) chain g h u e =
    let k : ℕ = front_chunks lens chain in
    let some : 0 < length chain = omega (arith, u) in
    let here = in_chain chain 0 some in
    let head : get_or lens' (get_or chain 0 0) 0 ≡ get_or lens (get_or chain 0 0) 0 = g (get_or chain 0 0) here in
    let end : get_or lasts' (get_or chain 0 0) 0 ≡ get_or lasts (get_or chain 0 0) 0 = h (get_or chain 0 0) here in
    let parts : (c : ℕ) → count c (take k chain) + count c (drop k chain) ≡ count c chain =
    λ c. sym (count-append c (take k chain) (drop k chain)) ∙ ap (count c) (take-append-drop k chain) in
    let rest : uses lens n (drop k chain) ≡ length (drop k chain) = omega (arith, u, length-drop k chain) in
    let tail = ends_kept lens lens' lasts lasts' n (drop k chain) (λ c s. g c (let p = parts c in omega (arith, p, s)))
    (λ c s. h c (let p = parts c in omega (arith, p, s))) rest e.1 in
    rw head (end ∙ e.0, tail)

pub ends_append : (lens lasts : List ℕ) (n : ℕ) (chain more : List ℕ) → uses lens n chain ≡ length chain
    → Ends lens lasts n chain
    → Ends lens lasts 1 more → Ends lens lasts (n + 1) (chain ++ more)
ends_append lens lasts zero chain more u e m =
    let none : chain ≡ [] = nil_from_length chain (sym u) in
    let one : 0 + 1 ≡ 1 = omega arith in
    rw (none, one) m
ends_append lens lasts (suc n) chain more u e m =
    let k : ℕ = front_chunks lens chain in
    let some : 0 < length chain = omega (arith, u) in
    let fits : k ≤ length chain = omega (arith, u) in
    let head : get_or (chain ++ more) 0 0 ≡ get_or chain 0 0 = get_or_append_left chain more 0 0 some in
    let end : get_or (chain ++ more) (k - 1) 0 ≡ get_or chain (k - 1) 0 =
    get_or_append_left chain more 0 (k - 1) (omega (arith, fits, some)) in
    let rest : uses lens n (drop k chain) ≡ length (drop k chain) = omega (arith, u, length-drop k chain) in
    let next = ends_append lens lasts n (drop k chain) more rest e.1 m in
    let one : suc n + 1 ≡ suc (n + 1) = omega arith in
    let back : drop k (chain ++ more) ≡ drop k chain ++ more = drop-append-le k chain more fits in
    rw (one, head, back, end) (e.0, next)

-- the first chunks of a list's chain become free
pub ends_shrunk : (chains : List (List ℕ)) (lens lasts counts : List ℕ) (i k m : ℕ) → AreEnds chains lens lasts counts
    → i + 1 < length chains → i < length counts
    → Ends lens lasts m (drop k (get_or chains (i + 1) [])) → AreEnds (moved chains (i + 1) 0 k) lens
    lasts (set counts i m)
ends_shrunk chains lens lasts counts i k m all hi h e =
    grind (arith, length-set, get_or-set_other, bool_cases, eqb, eqb-true, get_or-set_same, eqb-false)

pub ends_popped : (chains chunks chains' : List (List ℕ)) (lens lasts counts : List ℕ) (i k n : ℕ)
    → IsPool chains chunks lens counts → AreEnds chains lens lasts counts → i < length counts → 0 < get_or counts i 0
    → k ≡ front_chunks lens (get_or chains (i + 1) []) → n ≡ get_or counts i 0 - 1 → chains' ≡ moved chains (i + 1) 0 k
    → AreEnds chains' lens lasts (set counts i n)
ends_popped chains chunks chains' lens lasts counts i k n p all h some size less moves =
    let lists = p.lists in
    rw (moves, size, less) (ends_shrunk chains lens lasts counts i (front_chunks lens (get_or chains (i + 1) []))
    (get_or counts i 0 - 1) all (omega (arith, lists, h)) h
    (ends_rest lens lasts (get_or counts i 0) (get_or chains (i + 1) []) some (all.each i h)))

pub ends_cleared : (chains chunks chains' : List (List ℕ)) (lens lasts counts : List ℕ) (i k : ℕ)
    → IsPool chains chunks lens counts → AreEnds chains lens lasts counts → i < length counts
    → chains' ≡ moved chains (i + 1) 0 k → AreEnds chains' lens lasts (set counts i 0)
ends_cleared chains chunks chains' lens lasts counts i k p all h moves =
    let lists = p.lists in
    rw moves (ends_shrunk chains lens lasts counts i k 0 all (omega (arith, lists, h)) h tt)

-- a block at the end of a list
pub ends_appended : (chains chunks chains' : List (List ℕ)) (lens lasts counts : List ℕ) (i k n first last len : ℕ)
    → IsPool chains chunks lens counts → AreEnds chains lens lasts counts → i < length counts
    → k ≡ chunks_for len → k ≤ length (get_or chains 0 []) → first ≡ get_or (get_or chains 0 []) 0 0
    → n ≡ get_or counts i 0 + 1
    → chains' ≡ moved chains 0 (i + 1) k
    → last ≡ get_or (get_or chains' (i + 1) []) (length (get_or chains' (i + 1) []) - 1) 0
    → AreEnds chains' (set lens first len) (set lasts first last) (set counts i n)
ends_appended chains chunks chains' lens lasts counts i k n first last len p all h size enough at more moves is =
    let lists = p.lists in
    let free : List ℕ = get_or chains 0 [] in
    let a : List ℕ = take k free in
    let c : List ℕ = get_or chains (i + 1) [] in
    let hi : i + 1 < length chains = omega (arith, lists, h) in
    let h0 : 0 < length chains = omega (arith, lists) in
    let ne : 0 ≢ i + 1 = (λ z. omega (arith, z)) in
    let some : 0 < k = omega (arith, size) in
    let has : 0 < length free = omega (arith, enough, some) in
    let long_a : length a ≡ k = length-take-le k free enough in
    let head_a : get_or a 0 0 ≡ first = (let t = get_or_append_left a (drop k free) 0 0 (omega (arith, long_a, some)) in
    sym t ∙ ap (λ (xs : List ℕ). get_or xs 0 0) (take-append-drop k free) ∙ sym at) in
    let first_a : 0 < count first a = subst (λ (x : ℕ). 0 < count x a) head_a
    (in_chain a 0 (omega (arith, long_a, some))) in
    let parts : (x : ℕ) → count x a + count x (drop k free) ≡ count x free = λ x. sym (count-append x a (drop k free))
    ∙ ap (count x) (take-append-drop k free) in
    let apart : (j x : ℕ) → j < length counts → 0 < count x (get_or chains (j + 1) []) → x ≢ first =
    λ j x lt there z.
    let hj : j + 1 < length chains = omega (arith, lists, lt) in
    let nj : 0 ≢ j + 1 = (λ v. omega (arith, v)) in
    let two = occurs-two x chains 0 (j + 1) h0 hj nj in
    let one = p.apart x in
    let sum = parts x in
    let s : 0 < count x a = subst (λ (y : ℕ). 0 < count y a) (sym z) first_a in
    omega (arith, two, one, sum, there, s) in
    let in_lens : first < length lens =
    (let m = occurs-at first chains 0 h0 in let t = first_a in let sum = parts first in let same = p.lens_too in
    bool_cases (ltb first (length chunks)) (λ z. let lt = ltb-true first (length chunks) z in omega (arith, lt, same))
    (λ z. let none = p.within first (ltb-false first (length chunks) z) in absurd (omega (arith, m, t, sum, none)))) in
    let lens' : List ℕ = set lens first len in
    let lasts' : List ℕ = set lasts first last in
    let in_lasts : first < length lasts = rw all.lasts_too in_lens in
    let first_set : List (List ℕ) = set chains 0 (drop k free) in
    let long1 : length first_set ≡ length chains = length-set chains 0 (drop k free) in
    let next : get_or (moved chains 0 (i + 1) k) (i + 1) [] ≡ c ++ a =
    get_or-set_same first_set (i + 1) (c ++ a) [] (rw long1 hi) in
    let end : last ≡ get_or a (k - 1) 0 =
    is ∙ rw (moves, next) (let l = length-append c a in let e : length (c ++ a) - 1 ≡ length c + (k - 1) =
    omega (arith, l, long_a, some) in rw e (get_or-append-add c a (k - 1) 0)) in
    let len_a : get_or lens' (get_or a 0 0) 0 ≡ len = rw head_a (get_or-set_same lens first len 0 in_lens) in
    let need_a : front_chunks lens' a ≡ k = ap chunks_for len_a ∙ sym size in
    let last_a : get_or lasts' (get_or a 0 0) 0 ≡ get_or a (front_chunks lens' a - 1) 0 =
    ap (λ (v : ℕ). get_or lasts' v 0) head_a ∙ get_or-set_same lasts first last 0 in_lasts ∙ end
    ∙ ap (λ (v : ℕ). get_or a (v - 1) 0) (sym need_a) in
    let block_a : Ends lens' lasts' 1 a = (last_a, tt) in
    let kept : (j : ℕ) → j < length counts → Ends lens' lasts' (get_or counts j 0) (get_or chains (j + 1) []) =
    λ j lt. ends_kept lens lens' lasts lasts' (get_or counts j 0) (get_or chains (j + 1) [])
    (λ x s. get_or-set_other lens first x len 0 (apart j x lt s))
    (λ x s. get_or-set_other lasts first x last 0 (apart j x lt s)) (p.used j lt) (all.each j lt) in
    let used_i : uses lens' (get_or counts i 0) c ≡ length c =
    (blocks_kept chunks chunks lens lens' (get_or counts i 0) c (λ x s. refl)
    (λ x s. get_or-set_other lens first x len 0 (apart i x h s)) (p.used i h)).1 ∙ p.used i h in
    let joined = ends_append lens' lasts' (get_or counts i 0) c a used_i (kept i h) block_a in
    rw moves (record {
      lasts_too = length-set lasts first last ∙ all.lasts_too ∙ sym (length-set lens first len);
      each = λ j lt0.
          let lt : j < length counts = rw (length-set counts i n) at lt0 in
          bool_cases (eqb j i)
          (λ z. let same : i ≡ j = sym (eqb-true j i z) in
          let y : get_or (set counts i n) i 0 ≡ get_or counts i 0 + 1 = get_or-set_same counts i n 0 h ∙ more in
          let here : Ends lens' lasts' (get_or (set counts i n) i 0) (get_or (moved chains 0 (i + 1) k) (i + 1) []) =
          rw (next, y) joined in
          subst (λ (v : ℕ). Ends lens' lasts' (get_or (set counts i n) v 0)
          (get_or (moved chains 0 (i + 1) k) (v + 1) [])) same
          here)
          (λ z. let other : j ≢ i = eqb-false j i z in
          let nx : j + 1 ≢ i + 1 = (λ v. other (omega (arith, v))) in
          let nz : j + 1 ≢ 0 = (λ v. omega (arith, v)) in
          let x : get_or (moved chains 0 (i + 1) k) (j + 1) [] ≡ get_or chains (j + 1) [] =
          get_or-set_other first_set (i + 1) (j + 1) (c ++ a) [] nx ∙ get_or-set_other chains 0 (j + 1)
          (drop k free) [] nz in
          let y : get_or (set counts i n) j 0 ≡ get_or counts j 0 = get_or-set_other counts i j n 0 other in
          rw (x, y) (kept j lt));
    })

-- an empty pool
pub ends_blank : (chains : List (List ℕ)) (lens lasts counts : List ℕ) (n lists : ℕ) → lens ≡ replicate n 0
    → lasts ≡ replicate n 0 → counts ≡ replicate lists 0 → AreEnds chains lens lasts counts
ends_blank chains lens lasts counts n lists a b c =
    rw (a, b, c) (record { lasts_too = refl; each = λ i lt. rw (zero_at lists i) tt })

-- the chain that grew
pub moved_place : (chains chains' : List (List ℕ)) (i k : ℕ) → chains' ≡ moved chains 0 (i + 1) k
    → i + 1 < length chains → 0 < k
    → k ≤ length (get_or chains 0 [])
    → (i + 1 < length chains') × (0 < length (get_or chains' (i + 1) []))
moved_place chains chains' i k moves hi some enough =
    grind (arith, length-set, get_or-set_same, length-append, length-take-le)
