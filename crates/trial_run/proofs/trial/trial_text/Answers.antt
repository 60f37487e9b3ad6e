use Rattle.std.proofs.Common.{List, ℕ, ◌++◌, ap, ◌∙◌}
use Rattle.trial_run.proofs.TrialLemmas.{first_lines, next_line}
use Rattle.trial_run.proofs.trial.trial_text.Goals as goal

pub loop-plp-init : goal.loop-plp-init
loop-plp-init c =
    first_lines c.args.plan.now c.args.frames c.args.seed c.in_ok-made.made _ c.in_ok-made.ensures
    (c.in_ok-push_network.ensures.text c.args.plan.now c.args.frames c.args.seed c.in_ok-made.ensures)
    c.in_ok-push_network.ensures.len

pub loop-plp-preserved : goal.loop-plp-preserved
loop-plp-preserved c =
    next_line c.args.plan.now c.args.frames c.args.seed c.loop-plp.plp c.in_ok-made.made c.loop-plp.page
    _ _ c.loop-plp.invariant
    (c.in_ok-line_of.ensures.text c.args.frames c.args.seed c.loop-plp.invariant.made)
    c.in_ok-line_of.ensures.len (c.push.ensures.text ∙ ap (λ (t : List ℕ). c.loop-plp.page ++ t) c.as_bytes.ensures)
