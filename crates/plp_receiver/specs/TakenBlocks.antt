-- A block that is taken, and what an assembler and a window hold together. No public clause cites this module,
-- `block_of` and `IsPlace` aside.
use Rattle.std.specs.Prelude.{◌≡◌, ℕ, ◌-◌, ◌%◌, ◌<◌, ◌≤◌, List, take, Option, Some, None}
use Rattle.plp_receiver.specs.declared.slot_rule.SlotRule.{SlotRule}
use Rattle.plp_receiver.specs.declared.assembler.Assembler.{Assembler}
use Rattle.plp_receiver.specs.declared.block.TakenBlock.{TakenBlock}
use Rattle.plp_receiver.specs.declared.window.SlotWindow.{SlotWindow}
use Rattle.plp_receiver.specs.Strings.{Item, Block, items_from}
use Rattle.plp_receiver.specs.Assembles.{AssemblerStandsFor}
use Rattle.plp_receiver.specs.SlotsHold.{Shows}

-- the joined data fields so far
pub record Both (r : SlotRule) (z : List Item) (a : Assembler) (w : SlotWindow) : Type 0 where
  pub assembles : AssemblerStandsFor a r z
  pub rule : w.rule ≡ r
  pub shows : Shows r z w.first w.end w.slots.items

pub record KeepsTimes (old new : SlotWindow) : Type 0 where
  pub rule : new.rule ≡ old.rule
  pub first : new.first ≡ old.first
  pub end : new.end ≡ old.end
  pub due : new.due_end ≡ old.due_end

abbrev pub block_of : TakenBlock → Block
block_of b = record { first = b.first; issy = b.issy; field = b.field.now }

-- the items of the first bytes of a data field
abbrev pub front_of : ℕ → ℕ → Block → ℕ → List Item
front_of len frame b at = items_from len frame b 0 (take at b.field)

-- A user packet begins at a place of a data field.
pub record IsBegun (start at len : ℕ) : Type 0 where
  pub order : start ≤ at
  pub whole : (at - start) % len ≡ 0

-- the place of the first user packet, or the end
abbrev pub IsStart : Option ℕ → ℕ → ℕ → Type 0
IsStart None len start = start ≡ len
IsStart (Some s) len start = (start ≡ s) × (s < len)

-- If a user packet begins in a data field of so many bytes, it begins inside it.
abbrev pub IsPlace : Option ℕ → ℕ → Type 0
IsPlace None len = Unit {0}
IsPlace (Some s) len = s < len
