-- What a `PacketSlots` stands for.
use Rattle.std.specs.Prelude.{◌≡◌, ℕ, ◌+◌, ◌-◌, ◌%◌, ◌==◌, List, [], ◌++◌, Option, Bool, false}
use Rattle.std.specs.List.{flat_map}
use Rattle.plp_receiver.specs.declared.slot_rule.SlotRule.{SlotRule}
use Rattle.plp_receiver.specs.declared.assembler.Assembler.{Assembler}
use Rattle.plp_receiver.specs.declared.slots.PacketSlots.{PacketSlots}
use Rattle.plp_receiver.specs.declared.window.SlotWindow.{SlotWindow}
use Rattle.plp_receiver.specs.Strings.{Item, Block}
use Rattle.plp_receiver.specs.SlotEpochs.{Epoch, HaveEnded, string_of, first_slot, reached, block_or_gap}
use Rattle.plp_receiver.specs.Times.{epoch_of, over_after, due_after}
use Rattle.plp_receiver.specs.TakenBlocks.{Both}
use Rattle.plp_receiver.specs.Window.{Status, status_of}

-- the items of blocks of an epoch
abbrev pub blocks_items : ℕ → ℕ → List (Option Block) → List Item
blocks_items len epoch blocks = flat_map (block_or_gap len epoch) blocks

pub record Stands (a : Assembler) (w : SlotWindow) (frame : ℕ) (r : SlotRule) (first count : ℕ) (epochs : List Epoch)
    (released : ℕ) : Type 0 where
  pub both : Both r (string_of r.up_len (epoch_of r first) epochs) a w
  pub number : frame ≡ first + count
  pub ended : HaveEnded r first frame epochs
  pub begin : w.first ≡ first_slot r first + released
  pub end : w.end ≡ reached r first count
  pub due : w.due_end ≡ due_after r frame

pub record Within (a : Assembler) (w : SlotWindow) (frame : ℕ) (r : SlotRule) (first count : ℕ) (epochs : List Epoch)
    (blocks : List (Option Block)) (released : ℕ) : Type 0 where
  pub both : Both r (string_of r.up_len (epoch_of r first) epochs ++ blocks_items r.up_len (epoch_of r frame) blocks)
      a w
  pub number : frame ≡ first + count
  pub ended : HaveEnded r first frame epochs
  pub begin : w.first ≡ first_slot r first + released
  pub end : w.end ≡ over_after r frame

-- the frame that comes next, or that is under way, and how many slots are due
abbrev pub frame_of : PacketSlots → ℕ
frame_of p = p.frame

abbrev pub is_within : PacketSlots → Bool
is_within p = p.in_frame

abbrev pub due_of : PacketSlots → ℕ
due_of p = p.window.due_end - p.window.first

abbrev pub rule_of : PacketSlots → SlotRule
rule_of p = p.window.rule

-- what a caller sees: the slot rule, the frame that comes next or that is under way, whether it is under way, and how
-- many slots are due
pub record SlotsStatus : Type 0 where
  pub rule : SlotRule
  pub frame : ℕ
  pub within : Bool
  pub due : ℕ

abbrev pub status_at : Status → ℕ → Bool → SlotsStatus
status_at w frame within = record { rule = w.rule; frame = frame; within = within; due = w.due_end - w.first }

abbrev pub slots_status : PacketSlots → SlotsStatus
slots_status p = status_at (status_of p.window) p.frame p.in_frame

-- that of one to which no frame came
abbrev pub new_status : SlotRule → SlotsStatus
new_status r = record { rule = r; frame = 0; within = false; due = 0 }

-- whether an epoch ends with that frame
abbrev pub ends_by : SlotsStatus → Bool
ends_by s = (s.frame + 1) % s.rule.spread == 0

abbrev pub ends_epoch : PacketSlots → Bool
ends_epoch p = ends_by (slots_status p)

-- No slot is in the window.
abbrev pub IsEmpty : PacketSlots → Type 0
IsEmpty p = p.window.slots.items ≡ []

-- So many frames came from one on, of whose epochs this came, and so many slots were given out.
unfoldable pub PacketSlotsStandsFor : PacketSlots → SlotRule → ℕ → ℕ → List Epoch → ℕ → Type 0
PacketSlotsStandsFor p r first count epochs released = Stands p.assembler p.window p.frame r first count epochs released

-- And the next frame is under way; of the epoch that ends with it came these blocks, nothing in place of one that is
-- not taken.
unfoldable pub StandsWithin : PacketSlots → SlotRule → ℕ → ℕ → List Epoch → List (Option Block) → ℕ → Type 0
StandsWithin p r first count epochs blocks released =
    Within p.assembler p.window p.frame r first count epochs blocks released

-- no frame came yet
pub record Fresh (a : Assembler) (w : SlotWindow) (r : SlotRule) : Type 0 where
  pub both : Both r [] a w
  pub empty : w.slots.items ≡ []

unfoldable pub IsFresh : PacketSlots → SlotRule → Type 0
IsFresh p r = Fresh p.assembler p.window r
