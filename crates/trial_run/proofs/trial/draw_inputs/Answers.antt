use Rattle.std.proofs.Common.{ap, map, List, Vec, ℕ, Global}
use Rattle.trial_run.proofs.TrialLemmas.{starts, drawn_more, vectors_more}
use Rattle.trial_run.proofs.trial.draw_inputs.Goals as goal

pub loop-plp-init : goal.loop-plp-init
loop-plp-init c = (
  ap (λ (l : List (Vec ℕ Global)). map (λ input. input.items) l) c.new-inputs.ensures.items,
  starts c.args.plan.now c.args.frames c.args.draws.now,
)

pub loop-plp-preserved : goal.loop-plp-preserved
loop-plp-preserved c =
    drawn_more c.args.plan.now c.args.frames c.args.draws.now c.loop-plp.plp _ _ _ _ _ c.loop-plp.invariant.0
    c.loop-plp.invariant.1 c.in_ok-trial_input.ensures.bytes c.in_ok-trial_input.ensures.draws
    (vectors_more _ _ _ c.in_ok-push.ensures.items)
