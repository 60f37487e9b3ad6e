use Rattle.std.proofs.Common.{codes}
use Rattle.trial_run.proofs.StageLemmas.{was_sent}
use Rattle.trial_run.proofs.stages.send.Goals as goal

pub returns : goal.returns
returns c = λ files are.
    was_sent c.front_law.ensures.decided c.args.plan.now _ _ (codes "out") files
    (record { stream = c.in_ok-stream.stream; ran = c.in_ok-ran.ran }) c.rules_law.ensures.plan c.requires.plps
    (c.in_ok-desk.ensures files are) c.in_ok-ran.ensures
    c.in_ok-stream.ensures
