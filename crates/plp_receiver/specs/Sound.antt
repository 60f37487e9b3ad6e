-- The ranges of a slot rule's numbers.
use Rattle.std.specs.Prelude.{◌≡◌, ◌*◌, ◌<◌, ◌≤◌}
use Rattle.plp_config.specs.SlotTimes.{AreSlotTimes}
use Rattle.plp_config.specs.declared.moment.TheConstants.{ISCR_TICKS}
use Rattle.plp_receiver.specs.declared.slot_rule.SlotRule.{SlotRule}

pub record IsSound (r : SlotRule) : Type 0 where
  pub times : AreSlotTimes r.times
  pub frame : (1 ≤ r.ticks) × (r.ticks < ISCR_TICKS)
  pub spread : 1 ≤ r.spread
  pub epoch : r.times.epoch ≡ r.spread * r.ticks
  pub up : (187 ≤ r.up_len) × (r.up_len ≤ 188)
