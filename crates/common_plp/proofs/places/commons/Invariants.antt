use Rattle.std.proofs.Common.{◌≤◌}
use Rattle.common_plp.specs.Inputs.{commons}
use Rattle.common_plp.proofs.places.commons.Given as goal

abbrev pub invariant-loop-place : goal.invariant-loop-place
invariant-loop-place l = l.place ≤ commons l.config.plps
