use Rattle.std.proofs.Common.{◌∙◌}
use Rattle.trial_run.proofs.StageLemmas.{given_at}
use Rattle.trial_run.proofs.trial.input_at.Goals as goal

pub returns : goal.returns
returns c = λ given n are small. c.deref.ensures.value
    ∙ given_at given c.args.inputs.now n c.args.plp _ are small c.index-inputs-plp.is
