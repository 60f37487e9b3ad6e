-- Slots and ticks. A PLP of R bit/s has one slot for the 1504 bits of a transport packet. In ticks, elementary periods
-- T, a slot lasts num / den, with num = 1504 Q and den = R M: a second has Q subseconds, and a tick M.
use Rattle.std.specs.Prelude.{◌≡◌, ℕ, ◌+◌, ◌-◌, ◌*◌, ◌/◌, ◌%◌, ◌^◌, ◌<◌, ◌≤◌}
use Rattle.std.specs.Int.{div_ceil, IsGcd}
use Rattle.plp_config.specs.Plps.{plp_at, spread}
use Rattle.plp_config.specs.Tables.{subseconds_per_second, subseconds_per_tick}
use Rattle.plp_config.specs.declared.config.Config.{Config}

-- the tick at which a slot starts
abbrev pub slot_start : ℕ → ℕ → ℕ → ℕ
slot_start num den slot = slot * num / den

-- how many slots are over by a tick
abbrev pub slot_count : ℕ → ℕ → ℕ → ℕ
slot_count num den tick = tick * den / num

-- the slots that end in epoch m, if an epoch is so many ticks: after tick (m - 1) * epoch, and at tick m * epoch at the
-- latest
abbrev pub InRange : ℕ → ℕ → ℕ → ℕ → ℕ → Type 0
InRange num den epoch m slot = (slot_count num den ((m - 1) * epoch) ≤ slot) × (slot < slot_count num den (m * epoch))

-- the first tick, from a tick on, whose number modulo 2^22 is this one
abbrev pub tick_of_iscr : ℕ → ℕ → ℕ
tick_of_iscr from iscr = from + (iscr + 2 ^ 22 - from % 2 ^ 22) % 2 ^ 22

-- the slot that an ISCR names, among those of an epoch
abbrev pub iscr_slot : ℕ → ℕ → ℕ → ℕ → ℕ → ℕ
iscr_slot num den epoch m iscr =
    div_ceil (tick_of_iscr (slot_start num den (slot_count num den ((m - 1) * epoch))) iscr * den) num

-- the constant delay from a slot's start until its packet is given out
abbrev pub delay_ticks : ℕ → ℕ → ℕ → ℕ
delay_ticks num den epoch = div_ceil num den + 1 + 3 * epoch

-- how many slots start so early that their packets are given out by a tick
abbrev pub released_count : ℕ → ℕ → ℕ → ℕ → ℕ
released_count num den delay tick = div_ceil ((tick + 1 - delay) * den) num

-- the slots that a receiver holds at most
abbrev pub window_slots : ℕ → ℕ → ℕ → ℕ → ℕ
window_slots num den delay ticks = div_ceil ((delay + ticks) * den) num + 2

-- the length of a slot in ticks, as a fraction
unfoldable pub num : Config → ℕ
num c = 1504 * subseconds_per_second c.band

unfoldable pub den : Config → ℕ → ℕ
den c plp = (plp_at c.plps plp).bits_per_second * subseconds_per_tick c.band

-- the same in lowest terms: both are divided by their greatest common divisor
abbrev pub IsSlotLength : Config → ℕ → ℕ → ℕ → Type 0
IsSlotLength c plp n d = (divisor : ℕ) × IsGcd (num c) (den c plp) divisor × (n ≡ num c / divisor)
    × (d ≡ den c plp / divisor)

-- the ticks of an interleaving frame of the PLP at a place
abbrev pub epoch_ticks : Config → ℕ → ℕ
epoch_ticks c plp = spread c.plps plp * c.ticks

-- the times of the PLP at a place of a configuration
abbrev pub start : Config → ℕ → ℕ → ℕ
start c plp slot = slot_start (num c) (den c plp) slot

abbrev pub slots_by : Config → ℕ → ℕ → ℕ
slots_by c plp tick = slot_count (num c) (den c plp) tick

abbrev pub delay : Config → ℕ → ℕ
delay c plp = delay_ticks (num c) (den c plp) (epoch_ticks c plp)

abbrev pub window : Config → ℕ → ℕ
window c plp = window_slots (num c) (den c plp) (delay c plp) c.ticks

-- the packet of a slot is given out once a frame has ended: the delay has passed
abbrev pub IsReleased : Config → ℕ → ℕ → ℕ → Type 0
IsReleased c plp frame slot = start c plp slot + delay c plp ≤ (frame + 1) * c.ticks
