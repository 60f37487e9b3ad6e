use Rattle.std.proofs.Common.{arith}
use Rattle.plp_config.specs.Rules.{SuperframeLength}
use Rattle.plp_config.proofs.values.frames.Goals as goal

pub returns-clause-least : goal.returns-clause-least
returns-clause-least c = omega (arith, (c.requires SuperframeLength).0)

pub returns-clause-greatest : goal.returns-clause-greatest
returns-clause-greatest c = omega (arith, (c.requires SuperframeLength).1)
