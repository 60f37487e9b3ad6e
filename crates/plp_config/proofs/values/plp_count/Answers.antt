use Rattle.std.proofs.Common.{arith}
use Rattle.plp_config.specs.Rules.{PlpCount}
use Rattle.plp_config.proofs.values.plp_count.Goals as goal

pub overflow_cast-result : goal.overflow_cast-result
overflow_cast-result c = omega (arith, c.requires PlpCount)

pub returns-clause-least : goal.returns-clause-least
returns-clause-least c = omega (arith, c.requires PlpCount)
