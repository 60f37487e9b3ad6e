-- Ordinals of blocks, PLP by PLP.
use Rattle.std.proofs.Common.{◌≡◌, ℕ, zero, suc, ◌+◌, ◌<◌, List, [], ◌∷◌, take, get_or, ap, refl, arith}
use Rattle.std.specs.Prelude.{sum}
use Rattle.std.proofs.lemmas.List.Sums.{sum_by-cons}

first_sum : (x : ℕ) (xs : List ℕ) (n : ℕ) → sum (take (suc n) (x ∷ xs)) ≡ x + sum (take n xs)
first_sum x xs n = sum_by-cons (λ x. x) x (take n xs)

-- two ordinals are those of two blocks, or of one
pub ordinals_apart : (xs : List ℕ) (p b q d : ℕ) → b < get_or xs p 0 → d < get_or xs q 0
    → sum (take p xs) + b ≡ sum (take q xs)
    + d → (p ≡ q) × (b ≡ d)
ordinals_apart [] p b q d lb ld e = absurd (omega (arith, lb))
ordinals_apart (x ∷ xs) zero b zero d lb ld e = (refl, omega (arith, e))
ordinals_apart (x ∷ xs) zero b (suc q) d lb ld e =
    let s = first_sum x xs q in
    let l : b < x = lb in
    absurd (omega (arith, e, s, l))
ordinals_apart (x ∷ xs) (suc p) b zero d lb ld e =
    let s = first_sum x xs p in
    let l : d < x = ld in
    absurd (omega (arith, e, s, l))
ordinals_apart (x ∷ xs) (suc p) b (suc q) d lb ld e =
    let s = first_sum x xs p in
    let t = first_sum x xs q in
    let more = ordinals_apart xs p b q d lb ld (omega (arith, e, s, t)) in
    (ap suc more.0, more.1)
