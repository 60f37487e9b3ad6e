use Rattle.std.proofs.Common.{arith}
use Rattle.plp_config.proofs.IscrLemmas.{overs_rise}
use Rattle.plp_config.proofs.slot_times.SlotTimes.range_of.Goals as goal

pub returns-clause-order : goal.returns-clause-order
returns-clause-order c = overs_rise c.slot_time_law.ensures.count_rises c.args.self.now c.saturating_sub.result
    c.args.epoch
    c.over_by.result c.over_by-2.result c.requires.are (let e = c.saturating_sub.ensures in omega (arith, e))
    c.over_by.ensures.value c.over_by-2.ensures.value
