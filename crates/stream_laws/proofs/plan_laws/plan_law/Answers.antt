use Rattle.stream_laws.proofs.FrameRecordLemmas.{written_must_come, undamaged_must_come}
use Rattle.stream_laws.proofs.plan_laws.plan_law.Goals as goal

pub returns-clause-honest : goal.returns-clause-honest
returns-clause-honest c =
    written_must_come c.sent_law.ensures.frames c.stream_law.ensures c.tests_law.ensures c.frame_law.ensures
    c.honest_law.ensures.length c.honest_law.ensures.records c.args.plan.now c.rules_law.ensures.plan c.type_law.ensures

pub returns-clause-undamaged : goal.returns-clause-undamaged
returns-clause-undamaged c =
    undamaged_must_come c.args.plan.now c.rules_law.ensures.plan c.type_law.ensures.ids c.undamaged_law.ensures
    (returns-clause-honest c)
