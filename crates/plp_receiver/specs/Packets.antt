-- User packets of a string: which are complete, and which slot each has.
use Rattle.std.specs.Prelude.{ℕ, zero, suc, ◌+◌, ◌-◌, ◌&&◌, Bool, false, List, [], ◌∷◌, ◌++◌, length, take, drop}
use Rattle.std.specs.Prelude.{Option, Some, None, if◌then◌else◌, option_map}
use Rattle.std.specs.List.{list_all}
use Rattle.ts_packet.specs.declared.sizes.TheConstants.{SIZE, SYNC}
use Rattle.plp_config.specs.SlotTimes.{slot_of_iscr}
use Rattle.plp_receiver.specs.declared.mark.Mark.{Mark}
use Rattle.plp_receiver.specs.declared.slot_rule.SlotRule.{SlotRule}
use Rattle.plp_receiver.specs.Strings.{Item, is_start, is_inside}
use Rattle.plp_receiver.specs.declared.mark.Mark.TheVariants.{Gap, Inside, Next, Timed}

abbrev pub all_inside : List Item → Bool
all_inside xs = list_all (λ x. is_inside x.mark) xs

-- A user packet begins at the first byte, and at no other.
unfoldable pub is_one : List Item → Bool
is_one [] = false
is_one (x ∷ xs) = is_start x.mark && all_inside xs

abbrev pub no_item : Item
no_item = record { mark = Gap; value = 0; epoch = 0; can_end = false }

abbrev pub last_of : Item → List Item → Item
last_of x [] = x
last_of x (y ∷ ys) = last_of y ys

abbrev pub first_item : List Item → Item
first_item [] = no_item
first_item (x ∷ xs) = x

abbrev pub last_item : List Item → Item
last_item xs = last_of no_item xs

-- These bytes, as many as a user packet has, are a complete one: no other begins among them, and it can end where they
-- end.
abbrev pub is_complete : List Item → Bool
is_complete w = is_one w && (last_item w).can_end

abbrev pub dnp_of : SlotRule → List Item → ℕ
dnp_of r w = if r.deletes then (last_item w).value else 0

-- the slot of a user packet, by that of the complete one that ends where it begins
abbrev pub slot_by : SlotRule → Mark → ℕ → ℕ → Option ℕ → Option ℕ
slot_by r Gap epoch dnp before = None
slot_by r Inside epoch dnp before = None
slot_by r Next epoch dnp before = option_map (λ k. k + 1 + dnp) before
slot_by r (Timed iscr) epoch dnp before = slot_of_iscr r.times epoch iscr

unfoldable pub slot_of : SlotRule → List Item → Option ℕ → Option ℕ
slot_of r w before = if is_complete w then slot_by r (first_item w).mark (first_item w).epoch (dnp_of r w)
    before else None

abbrev pub window : SlotRule → List Item → ℕ → List Item
window r z x = take r.up_len (drop x z)

abbrev pub latest : List (Option ℕ) → Option ℕ
latest [] = None
latest (s ∷ slots) = s

-- the slot at up_len places before the next one
abbrev pub slot_before : SlotRule → List (Option ℕ) → Option ℕ
slot_before r slots = latest (drop (r.up_len - 1) slots)

-- the slots of the complete user packets that begin at the places below n, the last place first
unfoldable pub slots_at : SlotRule → List Item → ℕ → List (Option ℕ)
slots_at r z zero = []
slots_at r z (suc x) = slot_of r (window r z x) (slot_before r (slots_at r z x)) ∷ slots_at r z x

-- a complete user packet that has a slot
pub record UserPacket : Type 0 where
  pub slot : ℕ
  pub items : List Item

abbrev pub with_slot : List Item → Option ℕ → List UserPacket
with_slot w None = []
with_slot w (Some k) = record { slot = k; items = w } ∷ []

-- those that begin at the places below n, in order
unfoldable pub packets_at : SlotRule → List Item → ℕ → List UserPacket
packets_at r z zero = []
packets_at r z (suc x) = packets_at r z x ++ with_slot (window r z x)
    (slot_of r (window r z x) (slot_before r (slots_at r z x)))

-- those of the string
abbrev pub user_packets : SlotRule → List Item → List UserPacket
user_packets r z = packets_at r z (length z + 1 - r.up_len)

-- the transport packet of a user packet
abbrev pub packet_of : List ℕ → List ℕ
packet_of bytes = SYNC ∷ take (SIZE - 1) bytes
