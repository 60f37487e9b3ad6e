-- What a receiver gives back of frames of a run, some of which are muted: the packet of each slot that is due, or a
-- null packet.
use Rattle.std.specs.Prelude.{ℕ, ◌+◌, ◌-◌, ◌*◌, ◌&&◌, nat_le, nat_lt, not, Bool, List, map, filter, if◌then◌else◌}
use Rattle.std.specs.List.{range_with_len, list_all, list_any}
use Rattle.ts_packet.specs.Null.{null_packet}
use Rattle.plp_config.specs.Plps.{spread}
use Rattle.plp_config.specs.SlotTime.{num, den, slots_by, delay, released_count, epoch_ticks}
use Rattle.plp_config.specs.declared.config.Config.{Config}
use Rattle.mode_adapt.specs.Queue.{Rates, sent, sent_before}
use Rattle.mode_adapt.specs.UserPackets.{up_place}
use Rattle.mode_adapt.specs.Blocks.{rates_of, plp_keeps}

-- In each slot of the PLP is the packet that `at` tells.

-- the slots that are due after so many frames from one on: those that were not over one interleaving frame before the
-- first one begins, and whose delay has passed at the end of the last one
abbrev pub due_slots : Config → ℕ → ℕ → ℕ → List ℕ
due_slots c plp first count =
    range_with_len (slots_by c plp ((first - spread c.plps plp) * c.ticks))
    (released_count (num c) (den c plp) (delay c plp) ((first + count) * c.ticks)
    - slots_by c plp ((first - spread c.plps plp) * c.ticks))

-- whether interleaving frame m carries byte i of the string of user packets
abbrev pub is_carried : Rates → (ℕ → Bool) → ℕ → ℕ → Bool
is_carried r keeps m i = nat_le (sent_before r keeps m) i && nat_lt i (sent r keeps m)

-- whether one of some interleaving frames carries a byte of the user packet of slot k
abbrev pub is_touched : Rates → (ℕ → Bool) → List ℕ → ℕ → Bool
is_touched r keeps ms k =
    list_any (λ m. list_any (is_carried r keeps m) (range_with_len (up_place r.up_len keeps k) r.up_len)) ms

-- the packet of slot k, if these interleaving frames, of so many ticks, are lost: it is given back if it is kept and
-- none of them carries a byte of its user packet
abbrev pub recovered : Config → ℕ → ℕ → (ℕ → List ℕ) → List ℕ → ℕ → List ℕ
recovered c plp ticks at lost k =
    if plp_keeps c plp at k && not (is_touched (rates_of c plp ticks) (plp_keeps c plp at) lost k) then
    at k else null_packet

-- whether interleaving frame m of the PLP is there: each of its frames is one of so many from one on, and is not muted
abbrev pub is_there : Config → ℕ → (ℕ → Bool) → ℕ → ℕ → ℕ → Bool
is_there c plp muted first count m =
    list_all (λ n. nat_le first n && (nat_lt n (first + count) && not (muted n)))
    (range_with_len (m * spread c.plps plp) (spread c.plps plp))

-- those that are not; no interleaving frame that the frames carry has a greater number than they have
abbrev pub lost_frames : Config → ℕ → (ℕ → Bool) → ℕ → ℕ → List ℕ
lost_frames c plp muted first count = filter (λ m. not (is_there c plp muted first count m))
    (range_with_len 0 (first + count))

-- what so many frames from one on give back
abbrev pub recover : Config → ℕ → (ℕ → List ℕ) → (ℕ → Bool) → ℕ → ℕ → List (List ℕ)
recover c plp at muted first count = map (recovered c plp (epoch_ticks c plp) at (lost_frames c plp muted first count))
    (due_slots c plp first count)
