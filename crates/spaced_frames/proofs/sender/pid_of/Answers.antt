use Rattle.std.proofs.Common.{arith, ap}
use Rattle.plp_config.specs.Rules.{PidRange}
use Rattle.plp_config.specs.declared.config.Config.{Config}
use Rattle.spaced_frames.proofs.sender.pid_of.Goals as goal

pub returns-clause-small : goal.returns-clause-small
returns-clause-small c = let r = c.config.ensures.plan.rules PidRange in
    omega (arith, r.1, ap (λ (k : Config). k.pid) c.config.ensures.value)
