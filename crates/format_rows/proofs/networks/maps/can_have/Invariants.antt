use Rattle.std.proofs.Common.{ℕ, ◌<◌, ◌≤◌}
use Rattle.std.specs.Prelude.{slice_index}
use Rattle.plp_config.specs.Plps.{plp_at}
use Rattle.format_rows.proofs.networks.maps.can_have.Given as goal

abbrev pub invariant-loop-plp : goal.invariant-loop-plp
invariant-loop-plp l = (k : ℕ) → k < l.plp → slice_index l.counts k ≤ (plp_at l.plan.plps k).blocks
