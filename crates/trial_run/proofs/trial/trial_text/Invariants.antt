use Rattle.trial_run.specs.Made.{HasLines}
use Rattle.trial_run.proofs.trial.trial_text.Given as goal

abbrev pub invariant-loop-plp : goal.invariant-loop-plp
invariant-loop-plp l = HasLines l.plan l.frames l.seed l.plp l.made l.page
