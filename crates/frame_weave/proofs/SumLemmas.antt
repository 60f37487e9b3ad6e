-- Sums over the places of a frame, PLP by PLP.
use Rattle.std.proofs.Common.{◌≡◌, ℕ, zero, suc, ◌+◌, ◌-◌, ◌*◌, ◌<◌, ◌≤◌, List, [], ◌∷◌, length, get_or, sum_by, refl}
use Rattle.std.proofs.Common.{ap, sym, ◌∙◌, ⊎_elim, arith, Bool, true, false, subst}
use Rattle.std.specs.Prelude.{slice_index}
use Rattle.std.specs.List.{range_with_len, list_all}
use Rattle.std.proofs.lemmas.List.Folds.{list_all_at}
use Rattle.std.proofs.lemmas.List.FromFn.{length-range_with_len, get_or-range_with_len}
use Rattle.std.proofs.lemmas.Bool.{cases_order, leb-true}
use Rattle.std.proofs.lemmas.List.Sums.{sum_by-cons, sum_by-append, sum_by_push, list_all-from_AllPass}
use Rattle.terms.proofs.RangeLemmas.{places_more, range_append}
use Rattle.frame_weave.proofs.MarkLemmas.{times_most}
use Rattle.linked_pool.specs.Pool.{State, list_at, chunks_of, chunks_for, used_chunks}
use Rattle.plp_config.specs.Capacity.{block_bytes}
use Rattle.plp_config.specs.declared.config.Config.{Config}
use Rattle.frame_groups.specs.Tests.{pool_chunks}
use Rattle.frame_weave.specs.Places.{start_of, place_count, plp_need, has_room}
use Rattle.frame_weave.specs.Slots.{AreSized}

-- one number more
pub sum_more : (f : ℕ → ℕ) (n : ℕ) → sum_by f (range_with_len 0 (n + 1)) ≡ sum_by f (range_with_len 0 n) + f n
sum_more f n = ap (sum_by f) (places_more n) ∙ sum_by_push f (range_with_len 0 n) n

-- the places of one PLP more
pub start_more : (counts : List ℕ) (plp : ℕ) → start_of counts (plp + 1) ≡ start_of counts plp + slice_index counts plp
start_more counts plp = sum_more (λ j. slice_index counts j) plp

pub start_rises : (counts : List ℕ) (a d : ℕ) → start_of counts a ≤ start_of counts (a + d)
start_rises counts a zero = let e : a + zero ≡ a = omega arith in let same = ap (start_of counts) e in
    omega (arith, same)
start_rises counts a (suc d) =
    let e : a + suc d ≡ a + d + 1 = omega arith in
    let same = ap (start_of counts) e in
    let more = start_more counts (a + d) in
    let before = start_rises counts a d in
    omega (arith, same, more, before)

pub start_least : (counts : List ℕ) (a b : ℕ) → a ≤ b → start_of counts a ≤ start_of counts b
start_least counts a b l =
    let e : a + (b - a) ≡ b = omega (arith, l) in
    let same = ap (start_of counts) e in
    let rises = start_rises counts a (b - a) in
    omega (arith, same, rises)

-- a place is one of one PLP
pub one_plp : (counts : List ℕ) (p q k : ℕ) → start_of counts p ≤ k → k < start_of counts (p + 1)
    → start_of counts q ≤ k
    → k < start_of counts (q + 1) → p ≡ q
one_plp counts p q k from to low high =
    ⊎_elim (λ (e : p ≡ q). e)
    (⊎_elim
    (λ (l : p < q). let rises = start_least counts (p + 1) q (omega (arith, l)) in absurd
    (omega (arith, rises, to, low)))
    (λ (l : q < p). let rises = start_least counts (q + 1) p (omega (arith, l)) in absurd
    (omega (arith, rises, high, from))))
    (cases_order p q)

-- what is at most one number at each place, and what is so PLP by PLP
each_most : (f : ℕ → ℕ) (w a n : ℕ) → ((k : ℕ) → a ≤ k → k < a + n → f k ≤ w) → sum_by f (range_with_len a n) ≤ n * w
each_most f w a zero each = omega arith
each_most f w a (suc n) each =
    let x = sum_by-cons f a (range_with_len (a + 1) n) in
    let one = each a (omega arith) (omega arith) in
    let rest = each_most f w (a + 1) n (λ k low high. each k (omega (arith, low)) (omega (arith, high))) in
    omega (arith, x, one, rest)

pub plps_most : (counts : List ℕ) (f w : ℕ → ℕ) (p : ℕ)
    → ((plp : ℕ) → plp < p → (k : ℕ) → start_of counts plp ≤ k → k < start_of counts (plp + 1) → f k ≤ w plp)
    → sum_by f (range_with_len 0 (start_of counts p)) ≤ sum_by (λ q. slice_index counts q * w q) (range_with_len 0 p)
plps_most counts f w zero each =
    let none : sum_by f (range_with_len 0 (start_of counts zero)) ≡ 0 = refl in omega (arith, none)
plps_most counts f w (suc p) each =
    let step : suc p ≡ p + 1 = omega arith in
    let count = slice_index counts p in
    let more = start_more counts p in
    let whole : sum_by f (range_with_len 0 (start_of counts (suc p)))
    ≡ sum_by f (range_with_len 0 (start_of counts p)) + sum_by f (range_with_len (0 + start_of counts p) count) =
    ap (λ (k : ℕ). sum_by f (range_with_len 0 (start_of counts k))) step
    ∙ ap (λ (k : ℕ). sum_by f (range_with_len 0 k)) more
    ∙ ap (sum_by f) (range_append 0 (start_of counts p) count)
    ∙ sum_by-append f (range_with_len 0 (start_of counts p)) (range_with_len (0 + start_of counts p) count) in
    let front = plps_most counts f w p (λ plp l. each plp (omega (arith, l))) in
    let back = each_most f (w p) (0 + start_of counts p) count
    (λ k low high. each p (omega arith) k (omega (arith, low)) (omega (arith, high, more))) in
    let right : sum_by (λ q. slice_index counts q * w q) (range_with_len 0 (suc p))
    ≡ sum_by (λ q. slice_index counts q * w q) (range_with_len 0 p) + count * w p =
    ap (λ (k : ℕ). sum_by (λ q. slice_index counts q * w q) (range_with_len 0 k)) step
    ∙ sum_more (λ q. slice_index counts q * w q) p in
    omega (arith, whole, front, back, right)

-- a sum over a list, by its places
pub sum_by_places : {X : Type 0} (g : X → ℕ) (d : X) (xs : List X) (h : ℕ → ℕ) (a : ℕ)
    → ((k : ℕ) → k < length xs → h (a + k) ≡ g (get_or xs k d)) → sum_by g xs ≡ sum_by h (range_with_len a (length xs))
sum_by_places g d [] h a each = refl
sum_by_places g d (x ∷ xs) h a each =
    let left = sum_by-cons g x xs in
    let right = sum_by-cons h a (range_with_len (a + 1) (length xs)) in
    let front : h a ≡ g x = let e : a ≡ a + 0 = omega arith in ap h e ∙ each 0 (omega arith) in
    let rest = sum_by_places g d xs h (a + 1)
    (λ k l. let e : a + 1 + k ≡ a + suc k = omega arith in ap h e ∙ each (suc k) (omega (arith, l))) in
    omega (arith, left, right, front, rest)

sum_none : (f : ℕ → ℕ) (a n : ℕ) → ((k : ℕ) → a ≤ k → f k ≡ 0) → sum_by f (range_with_len a n) ≡ 0
sum_none f a zero none = refl
sum_none f a (suc n) none =
    let x = sum_by-cons f a (range_with_len (a + 1) n) in
    let one = none a (omega arith) in
    let rest = sum_none f (a + 1) n (λ k l. none k (omega (arith, l))) in
    omega (arith, x, one, rest)

-- there are no more places than chunks
count_most : (c : Config) (counts : List ℕ) (p : ℕ) → start_of counts p ≤ sum_by (plp_need c counts)
    (range_with_len 0 p)
count_most c counts zero = let none : start_of counts zero ≡ 0 = refl in omega (arith, none)
count_most c counts (suc p) =
    let step : suc p ≡ p + 1 = omega arith in
    let left = ap (start_of counts) step ∙ start_more counts p in
    let right = ap (λ (k : ℕ). sum_by (plp_need c counts) (range_with_len 0 k)) step ∙ sum_more (plp_need c counts) p in
    let rest = count_most c counts p in
    let one = times_most (slice_index counts p) (chunks_for (block_bytes c p)) (omega arith) in
    omega (arith, left, right, rest, one)

pub places_few : (c : Config) (counts : List ℕ) → has_room c counts ≡ true → place_count c counts ≤ pool_chunks c
places_few c counts room =
    let need = leb-true (sum_by (plp_need c counts) (range_with_len 0 (length c.plps))) (pool_chunks c) room in
    let count = count_most c counts (length c.plps) in
    omega (arith, need, count)

-- the blocks at their places have room
pub all_room : (c : Config) (counts : List ℕ) (pool : State) → AreSized c counts pool → has_room c counts ≡ true
    → used_chunks pool.lists ≤ pool_chunks c
all_room c counts pool sized room =
    let f : ℕ → ℕ = λ k. chunks_of (list_at pool k) in
    let places = length pool.lists in
    let count = place_count c counts in
    let few : count ≤ places = let n = places_few c counts room in let l = sized.lists in omega (arith, n, l) in
    let rest = places - count in
    let split : count + rest ≡ places = omega (arith, few) in
    let all = sum_by_places chunks_of [] pool.lists f 0
    (λ k l. let e : 0 + k ≡ k = omega arith in ap f e) in
    let parts : sum_by f (range_with_len 0 places)
    ≡ sum_by f (range_with_len 0 count) + sum_by f (range_with_len (0 + count) rest) =
    ap (λ (n : ℕ). sum_by f (range_with_len 0 n)) (sym split) ∙ ap (sum_by f) (range_append 0 count rest)
    ∙ sum_by-append f (range_with_len 0 count) (range_with_len (0 + count) rest) in
    let none = sum_none f (0 + count) rest (λ k l. ap chunks_of (sized.none k (omega (arith, l)))) in
    let most = plps_most counts f (λ q. chunks_for (block_bytes c q)) (length c.plps) sized.each in
    let need = leb-true (sum_by (plp_need c counts) (range_with_len 0 (length c.plps))) (pool_chunks c) room in
    omega (arith, all, parts, none, most, need)

-- each number below one passes a test, or one does not
pub all_below : (test : ℕ → Bool) (n : ℕ) → ((k : ℕ) → k < n → test k ≡ true)
    → list_all test (range_with_len 0 n) ≡ true
all_below test n each =
    list_all-from_AllPass test (range_with_len 0 n)
    (λ k d l.
    let inside : k < n = let size = length-range_with_len 0 n in omega (arith, size, l) in
    subst (λ (j : ℕ). test j ≡ true)
    (let e = get_or-range_with_len 0 n k d inside in omega (arith, e)) (each k inside))

pub not_all_below : (test : ℕ → Bool) (n k : ℕ) → k < n → test k ≡ false → list_all test (range_with_len 0 n) ≡ false
not_all_below test n k inside none =
    let within : k < length (range_with_len 0 n) = let size = length-range_with_len 0 n in omega
    (arith, size, inside) in
    list_all_at test (range_with_len 0 n) k 0 within
    (subst (λ (j : ℕ). test j ≡ false) (let e = get_or-range_with_len 0 n k 0 inside in omega (arith, e)) none)
