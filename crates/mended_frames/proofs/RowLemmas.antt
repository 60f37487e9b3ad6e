-- Feeds in a row.
use Rattle.std.proofs.Common.{◌≡◌, ◌≢◌, ℕ, zero, suc, ◌+◌, ◌<◌, ◌≤◌, List, [], ◌∷◌, length, Some, refl, ap, sym, subst}
use Rattle.std.proofs.Common.{◌∙◌, ⊎_elim, arith}
use Rattle.std.specs.Prelude.{slice_get, slice_set, slice_index_or}
use Rattle.std.proofs.lemmas.Bool.{cases_lt}
use Rattle.std.proofs.lemmas.Option.{same_Some}

pub set_here : {X : Type 0} (xs : List X) (i : ℕ) (x : X) → i < length xs → slice_get (slice_set xs i x) i ≡ Some x
set_here [] i x l = absurd (omega (arith, l))
set_here (y ∷ xs) zero x l = refl
set_here (y ∷ xs) (suc i) x l = set_here xs i x (omega (arith, l))

pub set_there : {X : Type 0} (xs : List X) (i j : ℕ) (x : X) → i ≢ j → slice_get (slice_set xs i x) j ≡ slice_get xs j
set_there [] i j x n = refl
set_there (y ∷ xs) zero zero x n = absurd (n refl)
set_there (y ∷ xs) zero (suc j) x n = refl
set_there (y ∷ xs) (suc i) zero x n = refl
set_there (y ∷ xs) (suc i) (suc j) x n = set_there xs i j x (λ e. n (ap suc e))

pub set_len : {X : Type 0} (xs : List X) (i : ℕ) (x : X) → length (slice_set xs i x) ≡ length xs
set_len [] i x = refl
set_len (y ∷ xs) zero x = refl
set_len (y ∷ xs) (suc i) x = ap suc (set_len xs i x)

-- one more is changed
pub one_more : {X : Type 0} (P : X → X → Type 0) (old now : List X) (n : ℕ) (x y : X)
    → ((i : ℕ) (f : X) → i < n → slice_get old i ≡ Some f → (h : X) × (slice_get now i ≡ Some h) × P f h)
    → ((i : ℕ) → n ≤ i → slice_get now i ≡ slice_get old i)
    → n < length now → slice_get now n ≡ Some x → P x y
    → (i : ℕ) (f : X) → i < n + 1 → slice_get old i ≡ Some f → (h : X) × (slice_get (slice_set now n y) i ≡ Some h)
    × P f h
one_more P old now n x y done left inside here own i f l e = ⊎_elim
    (λ (a : i < n).
    let d = done i f a e in
    (d.0, set_there now n i y (λ z. omega (arith, z, a)) ∙ d.1, d.2))
    (λ (a : n ≤ i).
    let at : i ≡ n = omega (arith, a, l) in
    let is : x ≡ f = same_Some x f (sym here ∙ left n (omega arith) ∙ ap (slice_get old) (sym at) ∙ e) in
    (y, ap (slice_get (slice_set now n y)) at ∙ set_here now n y inside, subst (λ (z : _). P z y) is own))
    (cases_lt i n)

-- what is read inside is there
pub got : {X : Type 0} (xs : List X) (i : ℕ) (x : X) → i < length xs → x ≡ slice_index_or xs i x
    → slice_get xs i ≡ Some x
got [] i x l e = absurd (omega (arith, l))
got (y ∷ xs) zero x l e = ap Some (sym e)
got (y ∷ xs) (suc i) x l e = got xs i x (omega (arith, l)) e
