use Rattle.std.proofs.Common.{◌<◌, ◌+◌, ◌*◌, ◌/◌, ◌^◌, arith}
use Rattle.plp_config.proofs.EmissionLemmas.{seconds_passed}
use Rattle.plp_config.specs.Rules.{StartTime}
use Rattle.plp_config.proofs.plan.Plan.emission.Goals as goal
use Rattle.plp_config.proofs.plan.Plan.emission.Goals.{After-frame_subseconds}

passed : (c : After-frame_subseconds) → (c.from.result + c.args.frame * c.frame_subseconds.result) /
    c.from-second.result < 2 ^ 31
passed c = seconds_passed c.from.result c.args.frame c.frame_subseconds.result c.from-second.result (omega arith)
    (omega arith)
    (omega arith) (omega arith)

pub overflow_add-result : goal.overflow_add-result
overflow_add-result c = omega (arith, c.self.invariant.rules StartTime, passed c)

pub returns-clause-seconds : goal.returns-clause-seconds
returns-clause-seconds c =
    let start = c.self.invariant.rules StartTime in
    (omega (arith, start), omega (arith, start, passed c))
