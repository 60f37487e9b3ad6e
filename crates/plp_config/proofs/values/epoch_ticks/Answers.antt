use Rattle.plp_config.specs.Rules.{EpochDuration}
use Rattle.plp_config.proofs.values.epoch_ticks.Goals as goal

pub returns-clause-greatest : goal.returns-clause-greatest
returns-clause-greatest c = rw (c.from.ensures, c.spread.ensures.value, c.from-2.ensures, c.ticks.ensures.value)
    (c.requires.rules EpochDuration c.args.plp c.requires.configured)
