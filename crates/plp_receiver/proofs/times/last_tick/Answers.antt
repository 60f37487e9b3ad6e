use Rattle.plp_receiver.proofs.TimeLemmas.{last_tick_is}
use Rattle.plp_receiver.proofs.times.last_tick.Goals as goal

pub returns : goal.returns
returns c = last_tick_is c.args.rule.now c.requires.sound c.args.epoch
