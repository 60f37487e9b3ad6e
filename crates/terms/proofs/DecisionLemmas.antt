-- Decisions: of what is made of parts that are decided, and of the first number at which something is not so.
use Rattle.std.proofs.Common.{◌⊎◌, inl, inr, ℕ, zero, suc, ◌<◌, Bool, true, false, arith, below_more}
use Rattle.std.specs.Prelude.{MatchBool}

pub as_sum : {P : Type 0} → Dec P → P ⊎ ¬ P
as_sum (yes p) = inl p
as_sum (no f) = inr f

pub decide_not : {P : Type 0} → Dec P → Dec (¬ P)
decide_not (yes p) = no (λ f. f p)
decide_not (no f) = yes f

pub decide_both : {P Q : Type 0} → Dec P → Dec Q → Dec (P × Q)
decide_both (no f) d = no (λ h. f h.0)
decide_both (yes p) (no f) = no (λ h. f h.1)
decide_both (yes p) (yes q) = yes (p, q)

pub decide_three : {P Q R : Type 0} → Dec P → Dec Q → Dec R → Dec (P × Q × R)
decide_three (no f) d e = no (λ h. f h.0)
decide_three (yes p) (no f) e = no (λ h. f h.1)
decide_three (yes p) (yes q) (no f) = no (λ h. f h.2)
decide_three (yes p) (yes q) (yes r) = yes (p, q, r)

-- what is asked in one of two cases
pub decide_case : {P Q : Type 0} (b : Bool) → Dec P → Dec Q → Dec (MatchBool b P Q)
decide_case true d e = d
decide_case false d e = e

-- what follows if something decided is so
pub decide_if : {P Q : Type 0} → Dec P → Dec Q → Dec (P → Q)
decide_if (no f) e = yes (λ p. absurd (f p))
decide_if (yes p) (no f) = no (λ h. f (h p))
decide_if (yes p) (yes q) = yes (λ h. q)

-- One of two things is so of each number: the first of all below a count, or the second of a number, and the first of
-- all before.
pub first_other : (A B : ℕ → Type 0) → ((n : ℕ) → A n ⊎ B n) → (count : ℕ) → ((n : ℕ) → n < count → A n)
    ⊎ ((n : ℕ) × (n < count) × B n × ((m : ℕ) → m < n → A m))
first_other A B each zero = inl (λ n lt. absurd (omega arith))
first_other A B each (suc count) =
    elim (first_other A B each count) [
      | inl all ↦ elim (each count) [
        | inl here ↦ inl (λ n lt. below_more A count all here n (omega (arith, lt)))
        | inr other ↦ inr (count, omega arith, other, all)
      ]
      | inr found ↦ inr (found.0, (let lt = found.1 in omega (arith, lt)), found.2, found.3)
    ]

-- the first number below a count at which something fails, or none
pub first_failure : (P : ℕ → Type 0) → ((n : ℕ) → Dec (P n)) → (count : ℕ) → ((n : ℕ) → n < count → P n)
    ⊎ ((n : ℕ) × (n < count) × ¬ (P n) × ((m : ℕ) → m < n → P m))
first_failure P each count = first_other P (λ n. ¬ (P n)) (λ n. as_sum (each n)) count

-- whether something is so of all numbers below a count
pub decide_below : (P : ℕ → Type 0) → ((n : ℕ) → Dec (P n)) → (count : ℕ) → Dec ((n : ℕ) → n < count → P n)
decide_below P each count =
    elim (first_failure P each count) [
      | inl all ↦ yes all
      | inr found ↦ no (λ h. found.2 (h found.0 found.1))
    ]
