use Rattle.std.proofs.Common.{codes}
use Rattle.trial_run.proofs.StageLemmas.{modulated}
use Rattle.trial_run.proofs.stages.modulate.Goals as goal

pub returns-clause-records : goal.returns-clause-records
returns-clause-records c =
    (modulated c.args.plan.now _ _ (codes "in") (codes "out") c.args.stream.now _ _ c.in_ok-desk.ensures
    c.in_ok-ran.ensures
    c.in_ok-records.ensures).0

pub returns-clause-ran : goal.returns-clause-ran
returns-clause-ran c =
    (modulated c.args.plan.now _ _ (codes "in") (codes "out") c.args.stream.now _ _ c.in_ok-desk.ensures
    c.in_ok-ran.ensures
    c.in_ok-records.ensures).1
