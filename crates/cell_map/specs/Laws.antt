-- Laws of the cell map.
use Rattle.std.specs.Prelude.{◌≡◌, ℕ, ◌*◌, ◌%◌, ◌^◌, ◌<◌, ◌↔◌, List, length, Some, None}
use Rattle.std.specs.FinMap.{get}
use Rattle.std.specs.List.{range_with_len}
use Rattle.plp_config.specs.Capacity.{IsPlan, block_cells}
use Rattle.plp_config.specs.Plps.{spread, StandsAlone}
use Rattle.plp_config.specs.declared.config.Config.{Config}
use Rattle.scheduler.specs.Laws.{CountsFit}
use Rattle.scheduler.specs.Shape.{FrameShape, shape_of}
use Rattle.cell_map.specs.Address.{IsCell, IsCarried, part_of, position_of, address_at, address_of}
use Rattle.cell_map.specs.CellMap.{Passes, ordinal_of, carried_cells, cell_map}
use Rattle.cell_map.specs.Interleaver.{position}
use Rattle.cell_map.specs.declared.places.Cell.{Cell}

-- the cells of n blocks fill the positions below their number, each once
pub record FillsOnce (cells length n : ℕ) : Type 0 where
  pub below : (b q : ℕ) → b < n → q < cells → position cells length n b q < n * cells
  pub apart : (b q d r : ℕ) → b < n → q < cells → d < n → r < cells
      → position cells length n b q ≡ position cells length n d r → (b ≡ d) × (q ≡ r)
  pub onto : (p : ℕ) → p < n * cells → (b : ℕ) × (q : ℕ) × (b < n) × (q < cells) × (position cells length n b q ≡ p)

-- the interleaver loses no cell and puts no two in one place, at any length
abbrev pub InterleaverFillsOnce : Type 0
InterleaverFillsOnce = (cells length n : ℕ) → 0 < cells → cells % 5 ≡ 0 → FillsOnce cells length n

-- the shape of a frame whose PLPs have no more blocks than they may has a cell map
abbrev pub ShapePasses : Type 0
ShapePasses = (c : Config) (counts : List ℕ) → IsPlan c → CountsFit c counts → Passes c (shape_of c counts)

-- the map has each cell at its address
abbrev pub MapHasEachCell : Type 0
MapHasEachCell = (c : Config) (shape : FrameShape) (frame_idx plp block cell : ℕ) → Passes c shape
    → IsCarried c shape frame_idx plp block cell
    → get (cell_map c shape frame_idx) (address_of c shape frame_idx plp block cell)
    ≡ Some (record { ordinal = ordinal_of shape plp block; cell = cell })

-- and nothing else: what it has at an address is a cell with that address
pub record StandsAt (c : Config) (shape : FrameShape) (frame_idx address : ℕ) (found : Cell) : Type 0 where
  pub plp : ℕ
  pub block : ℕ
  pub there : IsCarried c shape frame_idx plp block found.cell
  pub value : address_of c shape frame_idx plp block found.cell ≡ address
  pub ordinal : found.ordinal ≡ ordinal_of shape plp block

abbrev pub MapHasOnlyCells : Type 0
MapHasOnlyCells = (c : Config) (shape : FrameShape) (frame_idx address : ℕ) (found : Cell)
    → get (cell_map c shape frame_idx) address ≡ Some found → StandsAt c shape frame_idx address found

-- an address is dummy exactly if no cell has it
abbrev pub DummyHasNoCell : Type 0
DummyHasNoCell = (c : Config) (shape : FrameShape) (frame_idx address : ℕ) → Passes c shape
    → (get (cell_map c shape frame_idx) address ≡ None)
    ↔ ((plp block cell : ℕ) → IsCarried c shape frame_idx plp block cell
    → ¬ (address_of c shape frame_idx plp block cell ≡ address))

-- each cell is carried in one of the frames of its interleaving frame
abbrev pub CarriedOnce : Type 0
CarriedOnce = (c : Config) (shape : FrameShape) (plp block cell : ℕ) → IsPlan c → IsCell c shape plp block cell
    → (part : ℕ) × (part < spread c.plps plp) × ((frame_idx : ℕ) → IsCarried c shape frame_idx plp block cell
    ↔ (part_of c frame_idx plp ≡ part))

-- which part of an interleaving frame a frame of a run carries is told by its number in its superframe
abbrev pub PartsRepeat : Type 0
PartsRepeat = (c : Config) (frame plp : ℕ) → IsPlan c → plp < length c.plps
    → part_of c (frame % c.frames) plp ≡ part_of c frame plp

-- the numbers of each cell are small, so that a word of 32 bits holds both: a record holds the bytes of 38,000 blocks
-- at most, of 32,400 cells at most
abbrev pub CellsFit : Type 0
CellsFit = (c : Config) (shape : FrameShape) (frame_idx address : ℕ) (found : Cell) → IsPlan c → Passes c shape
    → get (cell_map c shape frame_idx) address ≡ Some found
    → (found.ordinal < 2 ^ 16) × (found.cell < 2 ^ 15)

-- If the interleaving frames of a PLP are carried by one frame each, this frame carries each cell of their blocks, at
-- the address of its position.
pub record MapsByFrames (c : Config) (shape : FrameShape) (frame_idx plp block cell : ℕ) : Type 0 where
  pub carried : IsCarried c shape frame_idx plp block cell
  pub cells : carried_cells c shape frame_idx plp block ≡ range_with_len 0 (block_cells c plp)
  pub address : address_of c shape frame_idx plp block cell ≡ address_at c shape plp
      (position_of c shape plp block cell)

abbrev pub MapAlone : Type 0
MapAlone = (c : Config) (shape : FrameShape) (frame_idx plp block cell : ℕ) → StandsAlone c.plps plp
    → IsCell c shape plp block cell → MapsByFrames c shape frame_idx plp block cell
