-- What a PLP gets of successive interleaving frames.
use Rattle.std.specs.Prelude.{◌≡◌, ℕ, zero, suc, ◌+◌, ◌-◌, List, [], ◌∷◌, ◌++◌, length, map, Option, Some, None}
use Rattle.std.specs.List.{range_with_len, flat_map}
use Rattle.plp_receiver.specs.declared.slot_rule.SlotRule.{SlotRule}
use Rattle.plp_receiver.specs.Strings.{Item, Block, block_items, gap}
use Rattle.plp_receiver.specs.Readback.{slot_packet}
use Rattle.plp_receiver.specs.Times.{epoch_of, over_after, due_after}

-- an interleaving frame: it is not there, or the blocks of the PLP, and nothing in place of each that is not taken
pub data Epoch : Type 0 where
  Lost : Epoch
  There : List (Option Block) → Epoch

abbrev pub lost_epoch : Epoch
lost_epoch = Lost

abbrev pub epoch_with : List (Option Block) → Epoch
epoch_with blocks = There blocks

abbrev pub block_or_gap : ℕ → ℕ → Option Block → List Item
block_or_gap len epoch None = gap epoch ∷ []
block_or_gap len epoch (Some b) = block_items len epoch b

abbrev pub epoch_items : ℕ → ℕ → Epoch → List Item
epoch_items len epoch Lost = gap epoch ∷ []
epoch_items len epoch (There blocks) = flat_map (block_or_gap len epoch) blocks

-- the data fields of the epochs from one on, joined
unfoldable pub string_of : ℕ → ℕ → List Epoch → List Item
string_of len epoch [] = []
string_of len epoch (e ∷ epochs) = epoch_items len epoch e ++ string_of len (epoch + 1) epochs

-- Of the frames from one on and before another, these are the epochs that ended. The first one began before them,
-- unless its first frame is their first.
abbrev pub HaveEnded : SlotRule → ℕ → ℕ → List Epoch → Type 0
HaveEnded r first frame epochs = epoch_of r first + length epochs ≡ epoch_of r frame

-- the slot at which the output begins, if the first record is that of a frame
abbrev pub first_slot : SlotRule → ℕ → ℕ
first_slot r first = over_after r (first - r.spread)

-- the packets of the slots that are given out after so many frames from one on, and this is what came of the epochs
-- that ended
unfoldable pub readback : SlotRule → ℕ → ℕ → List Epoch → List (List ℕ)
readback r first count epochs =
    map (slot_packet r (string_of r.up_len (epoch_of r first) epochs))
    (range_with_len (first_slot r first) (due_after r (first + count) - first_slot r first))

-- the slot behind the last one that came into range with so many frames from one on
abbrev pub reached : SlotRule → ℕ → ℕ → ℕ
reached r first zero = first_slot r first
reached r first (suc before) = over_after r (first + before)

-- and how many came
abbrev pub held_slots : SlotRule → ℕ → ℕ → ℕ
held_slots r first count = reached r first count - first_slot r first
