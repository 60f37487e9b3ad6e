-- What is so of all that may have been done is so.
use Rattle.std.proofs.Common.{◌≡◌, ℕ, ◌<◌, ◌≤◌, Bool, true, false, arith}
use Rattle.std.proofs.lemmas.Bool.{true≢false}
use Rattle.std.proofs.Math.Bridge.{le_prop}
use Rattle.std.proofs.Math.Logic.{∥∥₁_elim}
use mathlib.Core.Bool.{Bool-set}

pub test_of : {A : Type 0} (x y : Bool) → ∥ A ∥₁ → (A → x ≡ y) → x ≡ y
test_of x y came f = ∥∥₁_elim came (Bool-set x y) f

pub most_of : {A : Type 0} (m n : ℕ) → ∥ A ∥₁ → (A → m ≤ n) → m ≤ n
most_of m n came f = ∥∥₁_elim came le_prop f

pub less_of : {A : Type 0} (m n : ℕ) → ∥ A ∥₁ → (A → m < n) → m < n
less_of m n came f = ∥∥₁_elim came le_prop f

pub nothing_of : {A : Type 0} → ∥ A ∥₁ → (A → ⊥) → ⊥
nothing_of came f = true≢false (test_of true false came (λ x. absurd (f x)))

pub number_of : {A : Type 0} (m n : ℕ) → ∥ A ∥₁ → (A → m ≡ n) → m ≡ n
number_of m n came f =
    let a = most_of m n came (λ x. let e = f x in omega (arith, e)) in
    let b = most_of n m came (λ x. let e = f x in omega (arith, e)) in
    omega (arith, a, b)
