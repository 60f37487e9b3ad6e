-- Of two inputs.
use Rattle.std.proofs.Common.{ℕ, zero, suc, ◌<◌, arith}

pub two : (P : ℕ → Type 0) → P 0 → P 1 → (input : ℕ) → input < 2 → P input
two P a b zero lt = a
two P a b (suc zero) lt = b
two P a b (suc (suc n)) lt = absurd (omega (arith, lt))
