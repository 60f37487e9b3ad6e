-- What a frame brings, rounded up to bytes, is at most what it carries.
use Rattle.std.proofs.Common.{ℕ, ◌*◌, ◌<◌, ◌≤◌, arith, inl, inr}
use Rattle.std.specs.Int.{div_ceil}
use Rattle.std.proofs.lemmas.Bool.{cases_lt}
use Rattle.plp_config.proofs.TimeLemmas.{lt-div_ceil}

pub div_ceil-le : (a b c : ℕ) → 0 < b → a ≤ c * b → div_ceil a b ≤ c
div_ceil-le a b c pos fits =
    elim (cases_lt c (div_ceil a b)) [
      | inl more ↦ let over : c * b < a = (lt-div_ceil a b c pos).0 more in absurd (omega arith)
      | inr done ↦ done
    ]
