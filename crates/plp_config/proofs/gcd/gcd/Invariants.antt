use Rattle.std.proofs.Common.{ℕ, ◌≤◌}
use Rattle.std.specs.Int.{IsGcd}
use Rattle.plp_config.proofs.gcd.gcd.Given as goal

abbrev pub invariant-loop-smaller : goal.invariant-loop-smaller
invariant-loop-smaller l = (1 ≤ l.larger) × ((g : ℕ) → IsGcd l.larger l.smaller g → IsGcd l.fn.a l.fn.b g)

abbrev pub decreases-loop-smaller : goal.decreases-loop-smaller
decreases-loop-smaller l = l.smaller
