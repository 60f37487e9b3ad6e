use Rattle.std.proofs.Common.{◌≢◌, ◌<◌, ℕ}
use Rattle.plp_config.specs.Plps.{plp_at}
use Rattle.plp_config.proofs.values.first_with.Given as goal

abbrev pub invariant-loop-place : goal.invariant-loop-place
invariant-loop-place l = (k : ℕ) → k < l.place → (plp_at l.config.plps k).id ≢ l.id
