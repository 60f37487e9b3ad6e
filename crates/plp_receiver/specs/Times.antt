-- Slots by frames, and by interleaving frames. An interleaving frame is an epoch here: so many frames from a multiple
-- of that number on.
use Rattle.std.specs.Prelude.{ℕ, ◌+◌, ◌-◌, ◌*◌, ◌/◌}
use Rattle.plp_config.specs.SlotTime.{slot_count}
use Rattle.plp_config.specs.SlotTimes.{due_by}
use Rattle.plp_receiver.specs.declared.slot_rule.SlotRule.{SlotRule}

-- the epoch to which a frame belongs, and the last frame of an epoch
abbrev pub epoch_of : SlotRule → ℕ → ℕ
epoch_of r frame = frame / r.spread

abbrev pub last_frame : SlotRule → ℕ → ℕ
last_frame r epoch = epoch * r.spread + r.spread - 1

-- how many slots are over when so many frames have come, and how many are given out when they have ended
abbrev pub over_after : SlotRule → ℕ → ℕ
over_after r frames = slot_count r.times.num r.times.den (frames * r.ticks)

abbrev pub due_after : SlotRule → ℕ → ℕ
due_after r frames = due_by r.times (frames * r.ticks)
