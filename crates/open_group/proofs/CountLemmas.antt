-- Pools without blocks, and tests of all places.
use Rattle.std.proofs.Common.{◌≡◌, ℕ, suc, ◌<◌, Bool, true, false, List, [], ◌∷◌, length, get_or, refl, ap, sym, subst}
use Rattle.std.proofs.Common.{arith}
use Rattle.std.specs.List.{list_all, list_any}
use Rattle.std.proofs.lemmas.List.Folds.{list_all_at, list_any_at, list_any_none}
use Rattle.std.proofs.lemmas.List.FromFn.{length-range_with_len, get_or-range_with_len}
use Rattle.std.proofs.lemmas.List.Sums.{sum_by-cons, list_all-from_AllPass}
use Rattle.plp_config.specs.Places.{places}
use Rattle.linked_pool.specs.Pool.{State, list_at, chunks_of, used_chunks, IsWhole}
use Rattle.plp_config.specs.declared.config.Config.{Config}

none_used : (lists : List (List (List ℕ))) → ((k : ℕ) → k < length lists → get_or lists k [] ≡ [])
    → used_chunks lists ≡ 0
none_used [] h = refl
none_used (blocks ∷ lists) h =
    let x = sum_by-cons chunks_of blocks lists in
    let one : chunks_of blocks ≡ 0 = ap chunks_of (h 0 (omega arith)) in
    let rest = none_used lists (λ k l. h (suc k) (omega (arith, l))) in
    omega (arith, x, one, rest)

-- a pool without blocks has all its chunks
pub all_spare : (pool : State) → IsWhole pool → ((k : ℕ) → k < length pool.lists → list_at pool k ≡ [])
    → pool.spare ≡ pool.opened
all_spare pool whole h = let none = none_used pool.lists h in omega (arith, whole, none)

place_at : (c : Config) (k d : ℕ) → k < length c.plps → get_or (places c) k d ≡ k
place_at c k d l = let e = get_or-range_with_len 0 (length c.plps) k d l in omega (arith, e)

-- each place passes a test, or one does not
pub all_places : (c : Config) (test : ℕ → Bool) → ((k : ℕ) → k < length c.plps → test k ≡ true)
    → list_all test (places c) ≡ true
all_places c test each =
    list_all-from_AllPass test (places c)
    (λ k d l.
    let inside : k < length c.plps = let n = length-range_with_len 0 (length c.plps) in omega (arith, n, l) in
    subst (λ (j : ℕ). test j ≡ true) (sym (place_at c k d inside)) (each k inside))

pub not_all_places : (c : Config) (test : ℕ → Bool) (k : ℕ) → k < length c.plps → test k ≡ false
    → list_all test (places c)
    ≡ false
not_all_places c test k inside none =
    let within : k < length (places c) = let n = length-range_with_len 0 (length c.plps) in omega (arith, n, inside) in
    list_all_at test (places c) k 0 within (subst (λ (j : ℕ). test j ≡ false) (sym (place_at c k 0 inside)) none)

-- and one passes a test, or none does
pub one_place : (c : Config) (test : ℕ → Bool) (k : ℕ) → k < length c.plps → test k ≡ true
    → list_any test (places c) ≡ true
one_place c test k inside e =
    let within : k < length (places c) = let n = length-range_with_len 0 (length c.plps) in omega (arith, n, inside) in
    list_any_at test (places c) k 0 within (subst (λ (j : ℕ). test j ≡ true) (sym (place_at c k 0 inside)) e)

pub no_place : (c : Config) (test : ℕ → Bool) → ((k : ℕ) → k < length c.plps → test k ≡ false)
    → list_any test (places c) ≡ false
no_place c test each =
    list_any_none test (places c)
    (λ k d l.
    let inside : k < length c.plps = let n = length-range_with_len 0 (length c.plps) in omega (arith, n, l) in
    subst (λ (j : ℕ). test j ≡ false) (sym (place_at c k d inside)) (each k inside))
