use Rattle.std.proofs.Common.{◌≡◌}
use Rattle.trial_run.specs.Draws.{after}
use Rattle.trial_run.specs.Losses.{kept_of_first}
use Rattle.trial_run.proofs.losses.kept_units.Given as goal

abbrev pub invariant-loop-unit : goal.invariant-loop-unit
invariant-loop-unit l = (l.kept.items ≡ kept_of_first l.fn.draws l.stream l.unit) × (l.draws ≡ after l.unit l.fn.draws)
