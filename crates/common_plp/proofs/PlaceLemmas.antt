-- Places that are found, or kept, by a test.
use Rattle.std.proofs.Common.{◌≡◌, ℕ, zero, suc, ◌+◌, ◌-◌, ◌<◌, ◌≤◌, ◌⊎◌, inl, inr, Bool, true, false, cond, List, []}
use Rattle.std.proofs.Common.{◌∷◌, ◌++◌, map}
use Rattle.std.proofs.Common.{Some, None, refl, ap, sym, ◌∙◌, ⊎_elim, arith}
use Rattle.std.specs.Prelude.{filter}
use Rattle.std.specs.List.{find, range_with_len}
use Rattle.std.proofs.lemmas.Bool.{cases_lt}
use Rattle.std.proofs.lemmas.List.Folds.{find-append}
use Rattle.std.proofs.lemmas.List.Elements.{filter-append}
use Rattle.std.proofs.lemmas.List.FromFn.{map-range_with_len_more}
use Rattle.std.proofs.lemmas.Option.{same_Some}
use Rattle.terms.proofs.OptionLemmas.{none_some}
use Rattle.terms.proofs.RangeLemmas.{places_more, range_append}

-- ---- the first place that passes

pub found_none : (test : ℕ → Bool) (n : ℕ) → find test (range_with_len 0 n) ≡ None → test n ≡ false
    → find test (range_with_len 0 (n + 1)) ≡ None
found_none test n before fails =
    ap (find test) (places_more n) ∙ find-append test (range_with_len 0 n) (n ∷ []) ∙ rw (before, fails) refl

pub found_first : (test : ℕ → Bool) (n k : ℕ) → k < n → find test (range_with_len 0 k) ≡ None → test k ≡ true
    → find test (range_with_len 0 n) ≡ Some k
found_first test n k below before passes =
    let e : n ≡ k + suc (n - k - 1) = omega (arith, below) in
    let f : zero + k ≡ k = omega arith in
    ap (λ (m : ℕ). find test (range_with_len 0 m)) e
    ∙ ap (find test) (range_append 0 k (suc (n - k - 1)))
    ∙ find-append test (range_with_len 0 k) (range_with_len (zero + k) (suc (n - k - 1)))
    ∙ rw (before, f, passes) refl

one_found : (test : ℕ → Bool) (a n place : ℕ) (b : Bool) → test a ≡ b
    → cond b (Some a) (find test (range_with_len (a + 1) n)) ≡ Some place
    → (find test (range_with_len (a + 1) n) ≡ Some place → (test place ≡ true) × (place < a + 1 + n))
    → (test place ≡ true) × (place < a + suc n)
one_found test a n place true e is later =
    let same = same_Some a place is in (ap test (sym same) ∙ e, omega (arith, same))
one_found test a n place false e is later = let l = later is in (l.0, omega (arith, l.1))

-- what is found passes, and is one of the places
pub found_passes : (test : ℕ → Bool) (a n place : ℕ) → find test (range_with_len a n) ≡ Some place
    → (test place ≡ true) × (place < a + n)
found_passes test a zero place is = none_some place is
found_passes test a (suc n) place is =
    one_found test a n place (test a) refl is (found_passes test (a + 1) n place)

-- ---- what is made of places, and places that are kept

pub made_more : {X : Type 0} (f : ℕ → X) (n : ℕ) → map f (range_with_len 0 (n + 1)) ≡ map f (range_with_len 0 n)
    ++ f n ∷ []
made_more f n = map-range_with_len_more f 0 n n (omega arith)

pub kept_more : (test : ℕ → Bool) (n : ℕ)
    → filter test (range_with_len 0 (n + 1)) ≡ filter test (range_with_len 0 n) ++ cond (test n) (n ∷ []) []
kept_more test n = ap (filter test) (places_more n) ∙ filter-append test (range_with_len 0 n) (n ∷ [])

-- a place is in a list
abbrev pub IsIn : ℕ → List ℕ → Type 0
IsIn place [] = ⊥
IsIn place (other ∷ places) = (other ≡ place) ⊎ IsIn place places

one_kept : (test : ℕ → Bool) (place other : ℕ) (kept : List ℕ) (b : Bool) → test other ≡ b → test place ≡ true
    → (other ≡ place) ⊎ IsIn place kept → IsIn place (cond b (other ∷ kept) kept)
one_kept test place other kept true e passes is = is
one_kept test place other kept false e passes (inl same) = absurd (let f : true ≡ false = sym passes
    ∙ ap test (sym same) ∙ e in cc)
one_kept test place other kept false e passes (inr later) = later

later_kept : (place other : ℕ) (places kept : List ℕ) → (IsIn place places → IsIn place kept) → (other ≡ place)
    ⊎ IsIn place places
    → (other ≡ place) ⊎ IsIn place kept
later_kept place other places kept f (inl same) = inl same
later_kept place other places kept f (inr later) = inr (f later)

pub in_kept : (test : ℕ → Bool) (place : ℕ) (places : List ℕ) → test place ≡ true → IsIn place places
    → IsIn place (filter test places)
in_kept test place [] passes is = is
in_kept test place (other ∷ places) passes is =
    one_kept test place other (filter test places) (test other) refl passes
    (later_kept place other places (filter test places) (in_kept test place places passes) is)

same_or_later : (a place : ℕ) → a ≤ place → (a ≡ place) ⊎ (a + 1 ≤ place)
same_or_later a place from = ⊎_elim (λ (lt : a < place). inr (omega (arith, lt)))
    (λ (le : place ≤ a). inl (omega (arith, from, le)))
    (cases_lt a place)

pub in_range : (a n place : ℕ) → a ≤ place → place < a + n → IsIn place (range_with_len a n)
in_range a zero place from to = absurd (omega (arith, from, to))
in_range a (suc n) place from to = elim (same_or_later a place from) [
  | inl same ↦ inl same
  | inr later ↦ inr (in_range (a + 1) n place later (omega (arith, to)))
]
