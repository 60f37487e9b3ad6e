use Rattle.std.proofs.Common.{◌++◌, ℕ, List, ap, ◌∙◌}
use Rattle.trial_run.proofs.LossLemmas.{unit_pushed}
use Rattle.trial_run.proofs.losses.kept_units.Goals as goal

pub loop-unit-preserved : goal.loop-unit-preserved
loop-unit-preserved c =
    unit_pushed c.args.stream.now _ _ c.loop-unit.unit _ _ _ _ c.loop-unit.invariant.0 c.loop-unit.invariant.1
    c.next.ensures.drawn (c.in_ok-extend_from_slice.ensures.items
    ∙ ap (λ (l : List ℕ). c.loop-unit.kept.items ++ l) c.kept_by.ensures) c.next.ensures.number
