-- A complete user packet, by the blocks of a run. A run is taken blocks that follow each other; places count the bytes
-- of the run.
use Rattle.std.specs.Prelude.{◌≡◌, ◌↔◌, ℕ, ◌+◌, ◌<◌, ◌≤◌, true, List, [], ◌∷◌, length, get_or, Option, Some, None}
use Rattle.std.specs.List.{AllByRecursion, flat_map}
use Rattle.plp_receiver.specs.declared.slot_rule.SlotRule.{SlotRule}
use Rattle.plp_receiver.specs.Sound.{IsSound}
use Rattle.plp_receiver.specs.Strings.{Item, Block, block_items, is_start}
use Rattle.plp_receiver.specs.TakenBlocks.{IsPlace}
use Rattle.plp_receiver.specs.Packets.{no_item, is_complete, window}

-- the item at a place
abbrev pub at : List Item → ℕ → Item
at z i = get_or z i no_item

-- a block with the number of its epoch
pub record Placed : Type 0 where
  pub epoch : ℕ
  pub block : Block

abbrev pub run_items : ℕ → List Placed → List Item
run_items len run = flat_map (λ p. block_items len p.epoch p.block) run

-- The first user packet of each block begins in its data field.
abbrev pub AreInField : List Placed → Type 0
AreInField run = AllByRecursion (λ p. IsPlace p.block.first (length p.block.field)) run

-- A block that begins at a place has its first user packet where the one from x ends, or has none and ends by there.
abbrev pub Continues : ℕ → ℕ → ℕ → Option ℕ → ℕ → Type 0
Continues len x place None field = place + field ≤ x + len
Continues len x place (Some s) field = place + s ≡ x + len

-- So does each later block that begins before the user packet from x ends; the first of these blocks begins at a place.
abbrev pub EachLater : ℕ → ℕ → ℕ → List Placed → Type 0
EachLater len x place [] = Unit {0}
EachLater len x place (p ∷ run) =
    (x < place → place < x + len → Continues len x place p.block.first (length p.block.field))
    × EachLater len x (place + length p.block.field) run

-- A user packet that begins at x, and whose bytes are there, is complete exactly if this holds of the later blocks.
abbrev pub CompleteByBlocks : Type 0
CompleteByBlocks = (r : SlotRule) (run : List Placed) (x : ℕ) → IsSound r → AreInField run
    → is_start (at (run_items r.up_len run) x).mark ≡ true
    → x + r.up_len ≤ length (run_items r.up_len run)
    → (is_complete (window r (run_items r.up_len run) x) ≡ true) ↔ EachLater r.up_len x 0 run
