use Rattle.std.proofs.Common.{codes}
use Rattle.trial_run.proofs.StageLemmas.{received}
use Rattle.trial_run.proofs.stages.receive.Goals as goal

pub returns : goal.returns
returns c =
    received c.args.plan.now c.args.plp _ _ (codes "in") (codes "out") c.args.records.now _ _ c.in_ok-desk.ensures
    c.in_ok-run_receiver.ensures
    c.in_ok-copy_of.ensures
