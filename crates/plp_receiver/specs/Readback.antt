-- The packets of the slots, by what was received.
use Rattle.std.specs.Prelude.{ℕ, ◌+◌, ◌-◌, ◌*◌, ◌==◌, ◌&&◌, nat_le, nat_lt, Bool, List, Option, option_map, unwrap_or}
use Rattle.std.specs.List.{find, filter}
use Rattle.ts_packet.specs.Null.{null_packet}
use Rattle.plp_config.specs.SlotTime.{slot_start}
use Rattle.plp_receiver.specs.declared.slot_rule.SlotRule.{SlotRule}
use Rattle.plp_receiver.specs.Packets.{packet_of, UserPacket, user_packets, first_item, last_item}
use Rattle.plp_config.specs.SlotTimes.{delay_of, over_by}
use Rattle.plp_receiver.specs.Times.{last_frame}
use Rattle.plp_receiver.specs.Strings.{Item, item_values}

-- A slot is in the range of the epoch in which its user packet begins, and is not given out when the last frame begins
-- of the epoch in which it ends.
abbrev pub counts_by : SlotRule → ℕ → ℕ → ℕ → ℕ → Bool
counts_by r delay slot begun ended =
    nat_le (over_by r.times (begun - 1)) slot && (nat_lt slot (over_by r.times begun)
    && nat_lt (last_frame r ended * r.ticks) (slot_start r.times.num r.times.den slot + delay))

abbrev pub counts : SlotRule → UserPacket → Bool
counts r up = counts_by r (delay_of r.times) up.slot (first_item up.items).epoch (last_item up.items).epoch

-- the user packets of a string that count, in order
unfoldable pub counted : SlotRule → List Item → List UserPacket
counted r z = filter (counts r) (user_packets r z)

-- the packet of a slot: of several that count the first
abbrev pub found_for : SlotRule → List Item → ℕ → Option UserPacket
found_for r z k = find (λ up. up.slot == k) (counted r z)

abbrev pub slot_option : SlotRule → List Item → ℕ → Option (List ℕ)
slot_option r z k = option_map (λ up. packet_of (item_values up.items)) (found_for r z k)

abbrev pub slot_packet : SlotRule → List Item → ℕ → List ℕ
slot_packet r z k = unwrap_or (slot_option r z k) null_packet
