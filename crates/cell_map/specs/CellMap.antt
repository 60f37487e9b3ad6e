-- The map of the cells of a frame (EN 302 755, clauses 6.5 and 8): which cell stands at an address. An address without
-- a cell is dummy.
use Rattle.std.specs.Prelude.{◌≡◌, ℕ, ◌+◌, ◌/◌, ◌<◌, ◌≤◌, ◌⊎◌, ◌==◌, Bool, List, length, take, map, filter, sum}
use Rattle.std.specs.Prelude.{slice_index}
use Rattle.std.specs.FinMap.{FinMap, from_entries}
use Rattle.std.specs.List.{flat_map, range_with_len}
use Rattle.std.specs.Ordering.{nat_cmp}
use Rattle.plp_config.specs.Capacity.{block_cells}
use Rattle.plp_config.specs.Plps.{plp_at}
use Rattle.plp_config.specs.declared.config.Config.{Config}
use Rattle.scheduler.specs.Shape.{FrameShape, cells_of}
use Rattle.cell_map.specs.Address.{IsCarried, position_of, part_of, address_of}
use Rattle.cell_map.specs.declared.faults.MapFault.{MapFault}
use Rattle.cell_map.specs.declared.faults.MapFault.TheVariants.{Beyond, Overlap}
use Rattle.cell_map.specs.declared.places.Cell.{Cell}

-- a shape passes if no PLP has more blocks than it may and in each frame each address is below the number of cells, and
-- no two cells share one
pub record Passes (c : Config) (shape : FrameShape) : Type 0 where
  pub counts : (plp : ℕ) → plp < length c.plps → slice_index shape.counts plp ≤ (plp_at c.plps plp).blocks
  pub below : (frame_idx plp block cell : ℕ) → IsCarried c shape frame_idx plp block cell
      → address_of c shape frame_idx plp block cell < c.cells
  pub apart : (frame_idx plp block cell other other_block other_cell : ℕ)
      → IsCarried c shape frame_idx plp block cell → IsCarried c shape frame_idx other other_block other_cell
      → address_of c shape frame_idx plp block cell ≡ address_of c shape frame_idx other other_block other_cell
      → (plp ≡ other) × (block ≡ other_block) × (cell ≡ other_cell)

-- the blocks of all interleaving frames that a frame carries are counted PLP by PLP
abbrev pub ordinal_of : FrameShape → ℕ → ℕ → ℕ
ordinal_of shape plp block = sum (take plp shape.counts) + block

-- a cell with its address
abbrev pub pair_of : Config → FrameShape → ℕ → ℕ → ℕ → ℕ → ℕ × Cell
pair_of c shape frame_idx plp block cell =
    (address_of c shape frame_idx plp block cell, record { ordinal = ordinal_of shape plp block; cell = cell })

-- the cells of a block that the frame carries
abbrev pub is_carried : Config → FrameShape → ℕ → ℕ → ℕ → ℕ → Bool
is_carried c shape frame_idx plp block cell =
    position_of c shape plp block cell / cells_of c shape.counts plp == part_of c frame_idx plp

abbrev pub carried_cells : Config → FrameShape → ℕ → ℕ → ℕ → List ℕ
carried_cells c shape frame_idx plp block =
    filter (is_carried c shape frame_idx plp block) (range_with_len 0 (block_cells c plp))

-- those of a block, of a PLP and of all, with their addresses
abbrev pub block_pairs : Config → FrameShape → ℕ → ℕ → ℕ → List (ℕ × Cell)
block_pairs c shape frame_idx plp block = map (pair_of c shape frame_idx plp block)
    (carried_cells c shape frame_idx plp block)

abbrev pub plp_pairs : Config → FrameShape → ℕ → ℕ → List (ℕ × Cell)
plp_pairs c shape frame_idx plp =
    flat_map (block_pairs c shape frame_idx plp) (range_with_len 0 (slice_index shape.counts plp))

abbrev pub pairs : Config → FrameShape → ℕ → List (ℕ × Cell)
pairs c shape frame_idx = flat_map (plp_pairs c shape frame_idx) (range_with_len 0 (length c.plps))

-- the cell map of the frame: the finite map of these pairs
unfoldable pub cell_map : Config → FrameShape → ℕ → FinMap nat_cmp Cell
cell_map c shape frame_idx = from_entries (pairs c shape frame_idx)

-- a PLP has more blocks than it may, or a cell at or beyond the end of its frame
abbrev pub IsBeyond : Config → FrameShape → ℕ → Type 0
IsBeyond c shape plp =
    ((plp_at c.plps plp).blocks < slice_index shape.counts plp)
    ⊎ ((frame_idx : ℕ) × (block : ℕ) × (cell : ℕ) × IsCarried c shape frame_idx plp block cell
    × (c.cells ≤ address_of c shape frame_idx plp block cell))

-- a cell of the one PLP and another cell of the other have one address in one frame
pub record Shares (c : Config) (shape : FrameShape) (first second : ℕ) : Type 0 where
  pub frame_idx : ℕ
  pub block : ℕ
  pub cell : ℕ
  pub other_block : ℕ
  pub other_cell : ℕ
  pub one : IsCarried c shape frame_idx first block cell
  pub other : IsCarried c shape frame_idx second other_block other_cell
  pub same : address_of c shape frame_idx first block cell ≡ address_of c shape frame_idx second other_block other_cell
  pub apart : ¬ ((first ≡ second) × (block ≡ other_block) × (cell ≡ other_cell))

-- the fault of a shape: the first PLP that is beyond; else the least pair that shares, by its first PLP and then by its
-- second
abbrev pub Faults : Config → FrameShape → MapFault → Type 0
Faults c shape (Beyond plp) = (plp < length c.plps) × IsBeyond c shape plp
    × ((k : ℕ) → k < plp → ¬ (IsBeyond c shape k))
Faults c shape (Overlap first second) =
    ((k : ℕ) → k < length c.plps → ¬ (IsBeyond c shape k))
    × (first ≤ second) × Shares c shape first second
    × ((h k : ℕ) → h ≤ k → Shares c shape h k → (first < h) ⊎ ((first ≡ h) × (second ≤ k)))
