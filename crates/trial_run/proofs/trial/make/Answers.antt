use Rattle.trial_run.proofs.TrialLemmas.{made_is}
use Rattle.trial_run.proofs.trial.make.Goals as goal

pub returns : goal.returns
returns c =
    made_is c.args.plan.now c.args.frames c.args.seed _ _
    (record {
      inputs = c.in_ok-inputs.inputs;
      sent = c.in_ok-sent.sent;
      whole = c.in_ok-whole.whole;
      lossy = c.in_ok-lossy.lossy;
    }) _ _ _ _ _ c.requires.plps c.new-draws.ensures
    c.in_ok-inputs.ensures.inputs c.deref.ensures.value c.in_ok-sent.ensures c.in_ok-inputs.ensures.draws
    c.deref-2.ensures.value
    c.in_ok-whole.ensures.records c.in_ok-whole.ensures.ran c.in_ok-kept.ensures.units
    c.deref-3.ensures.value c.deref-4.ensures.value c.in_ok-lossy.ensures.records c.in_ok-lossy.ensures.ran
