use Rattle.std.proofs.Common.{ap, arith}
use Rattle.plp_config.specs.Plps.{spread_max}
use Rattle.plp_config.specs.Rules.{SpreadDivides}
use Rattle.plp_config.proofs.SpreadLemmas.{spread_greatest}
use Rattle.plp_config.proofs.values.spread_max.Goals as goal

pub returns-clause-least : goal.returns-clause-least
returns-clause-least c =
    let config = c.args.config.now in
    let found = (spread_greatest config c.requires).1 in
    omega (
      arith,
      (c.requires SpreadDivides found.0 found.1).0,
      found.2,
      c.greatest_spread.ensures,
      ap
          spread_max c.as_slice.ensures,
    )
