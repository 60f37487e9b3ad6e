-- The element at a place of a list, fronts of lists, and whether one of the numbers from one on passes a test.
use Rattle.std.proofs.Common.{◌≡◌, ℕ, zero, suc, ◌+◌, ◌≤◌, ◌<◌, Bool, true, false, List, [], ◌∷◌, ◌++◌, length, take}
use Rattle.std.proofs.Common.{drop}
use Rattle.std.proofs.Common.{Option, Some, None, refl, ap, sym, subst, ◌∙◌, arith, inl, inr}
use Rattle.std.specs.Prelude.{slice_get}
use Rattle.std.specs.List.{AllByRecursion, last_or, list_any, range_with_len}
use Rattle.std.proofs.Math.Bool.{or-true}
use Rattle.std.proofs.lemmas.Bool.{cases_lt}
use Rattle.std.proofs.lemmas.List.{take_at, length-append}
use Rattle.std.proofs.lemmas.Option.{same_Some}

-- the list from the place of an element on begins with it
pub drop_some : {X : Type 0} (xs : List X) (k : ℕ) (x : X) → slice_get xs k ≡ Some x → drop k xs ≡ x ∷ drop (k + 1) xs
drop_some {X = X} [] zero x e = absurd (let z : ◌≡◌ {A = Option X} None (Some x) = e in cc)
drop_some {X = X} [] (suc k) x e = absurd (let z : ◌≡◌ {A = Option X} None (Some x) = e in cc)
drop_some {X = X} (y ∷ xs) zero x e = ap (λ (z : X). z ∷ xs) (same_Some y x e)
drop_some {X = X} (y ∷ xs) (suc k) x e =
    let next : suc (k + 1) ≡ suc k + 1 = omega arith in
    drop_some xs k x e ∙ ap (λ (j : ℕ). x ∷ drop j (y ∷ xs)) next

-- what holds of all elements holds of the one at a place
pub all_get : {X : Type 0} (P : X → Type 0) (xs : List X) (k : ℕ) (x : X) → AllByRecursion P xs
    → slice_get xs k ≡ Some x → P x
all_get {X = X} P [] zero x h e = absurd (let z : ◌≡◌ {A = Option X} None (Some x) = e in cc)
all_get {X = X} P [] (suc k) x h e = absurd (let z : ◌≡◌ {A = Option X} None (Some x) = e in cc)
all_get P (y ∷ xs) zero x h e = subst P (same_Some y x e) h.0
all_get P (y ∷ xs) (suc k) x h e = all_get P xs k x h.1 e

-- the element behind a front is the first of the rest
pub next_element : {X : Type 0} (xs ys : List X) (x : X) → slice_get (xs ++ ys) (length xs) ≡ Some x
    → (more : List X) × (ys ≡ x ∷ more)
next_element {X = X} [] [] x e = absurd (let z : ◌≡◌ {A = Option X} None (Some x) = e in cc)
next_element {X = X} [] (y ∷ ys) x e = (ys, ap (λ (v : X). v ∷ ys) (same_Some y x e))
next_element (z ∷ xs) ys x e = next_element xs ys x e

-- two fronts of one list that have the same length
pub same_front : {X : Type 0} (xs ys vs bs : List X) → xs ++ vs ≡ ys ++ bs → length xs ≡ length ys → xs ≡ ys
same_front xs ys vs bs e l = sym (take_at xs vs (length xs) refl) ∙ ap (take (length xs)) e
    ∙ take_at ys bs (length xs) (sym l)

-- a front as long as the whole is all of it
pub all_of : {X : Type 0} (xs ys : List X) → length (xs ++ ys) ≡ length xs → ys ≡ []
all_of xs [] e = refl
all_of xs (y ∷ ys) e = absurd (omega (arith, e, length-append xs (y ∷ ys)))

-- the last of some elements
pub last_is : {X : Type 0} (o : Option X) (xs : List X) (x : X) → last_or o (xs ++ x ∷ []) ≡ Some x
last_is o [] x = refl
last_is o (y ∷ xs) x = last_is (Some y) xs x

pub none_in : (test : ℕ → Bool) (from count : ℕ) → ((k : ℕ) → from ≤ k → k < from + count → test k ≡ false)
    → list_any test (range_with_len from count) ≡ false
none_in test from zero fails = refl
none_in test from (suc count) fails =
    rw (fails from (omega arith) (omega arith))
    (none_in test (from + 1) count (λ k le lt. fails k (omega (arith, le)) (omega (arith, lt))))

pub one_in : (test : ℕ → Bool) (from count k : ℕ) → from ≤ k → k < from + count → test k ≡ true
    → list_any test (range_with_len from count) ≡ true
one_in test from zero k le lt passes = absurd (omega (arith, le, lt))
one_in test from (suc count) k le lt passes = elim (cases_lt from k) [
  | inl more ↦ rw (one_in test (from + 1) count k (omega (arith, more)) (omega (arith, lt)) passes)
      (or-true (test from))
  | inr less ↦ (let same : k ≡ from = omega (arith, le, less) in let here : test from ≡ true = ap test (sym same)
      ∙ passes in
      rw here refl)
]
