-- The slots of one PLP and its interleaving frames, by its numbers.
use Rattle.std.specs.Prelude.{ℕ, ◌-◌, ◌*◌, ◌%◌, ◌^◌, ◌<◌, ◌≤◌, ◌==◌}
use Rattle.std.specs.declared.option.Option.{Option}
use Rattle.std.specs.List.{find, range_with_len}
use Rattle.plp_config.specs.SlotTime.{num, den, epoch_ticks, slot_start, slot_count, delay_ticks, released_count}
use Rattle.plp_config.specs.declared.config.Config.{Config}
use Rattle.plp_config.specs.declared.moment.TheConstants.{ISCR_TICKS}
use Rattle.plp_config.specs.declared.slot_times.SlotTimes.{SlotTimes}

-- They are times of slots: a slot lasts a tick or more, and an interleaving frame fewer than an ISCR counts.
pub record AreSlotTimes (t : SlotTimes) : Type 0 where
  pub some : 1 ≤ t.den
  pub long : t.den ≤ t.num
  pub small : t.num < 2 ^ 38
  pub least : 1 ≤ t.epoch
  pub most : t.epoch < ISCR_TICKS

-- those of the PLP at a place
abbrev pub slot_times : Config → ℕ → SlotTimes
slot_times c plp = record { num = num c; den = den c plp; epoch = epoch_ticks c plp }

-- the constant delay of a slot, in ticks
abbrev pub delay_of : SlotTimes → ℕ
delay_of t = delay_ticks t.num t.den t.epoch

-- how many slots are over when so many interleaving frames have ended
abbrev pub over_by : SlotTimes → ℕ → ℕ
over_by t epochs = slot_count t.num t.den (epochs * t.epoch)

-- how many slots are due by a tick
abbrev pub due_by : SlotTimes → ℕ → ℕ
due_by t tick = released_count t.num t.den (delay_of t) tick

-- the slot of the range of an interleaving frame whose start, modulo 2^22, is the ISCR (annex C.1)
abbrev pub slot_of_iscr : SlotTimes → ℕ → ℕ → Option ℕ
slot_of_iscr t epoch iscr = find (λ k. slot_start t.num t.den k % ISCR_TICKS == iscr)
    (range_with_len (over_by t (epoch - 1)) (over_by t epoch - over_by t (epoch - 1)))
