use Rattle.std.proofs.Common.{arith}
use Rattle.plp_config.proofs.TableLemmas.{greatest_ticks-le, quarter}
use Rattle.plp_config.specs.Rules.{FrameDuration}
use Rattle.plp_config.proofs.values.ticks.Goals as goal

pub returns-clause-least : goal.returns-clause-least
returns-clause-least c = (c.requires FrameDuration).0

pub returns-clause-greatest : goal.returns-clause-greatest
returns-clause-greatest c = omega (arith, (c.requires FrameDuration).1, greatest_ticks-le c.args.config.now.band)

pub returns-clause-quarter : goal.returns-clause-quarter
returns-clause-quarter c = quarter c.args.config.now.band c.args.config.now.ticks (c.requires FrameDuration).1
