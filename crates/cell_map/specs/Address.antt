-- The address of a cell in its frame (EN 302 755, clause 8.3.6), by the numbers of L1-post (clause 7.2.3.2).
use Rattle.std.specs.Prelude.{◌≡◌, ℕ, ◌+◌, ◌-◌, ◌*◌, ◌/◌, ◌%◌, ◌<◌, length, slice_index, if◌then◌else◌}
use Rattle.plp_config.specs.Capacity.{block_cells}
use Rattle.plp_config.specs.Plps.{plp_at, spread}
use Rattle.plp_config.specs.declared.config.Config.{Config}
use Rattle.scheduler.specs.Shape.{FrameShape, in_type2, cells_of, slice_of}
use Rattle.cell_map.specs.Interleaver.{position}

-- there is a cell of this number in a block of this number, both from 0, of the PLP at a place
pub record IsCell (c : Config) (shape : FrameShape) (plp block cell : ℕ) : Type 0 where
  pub configured : plp < length c.plps
  pub sent : block < slice_index shape.counts plp
  pub within : cell < block_cells c plp

-- its position among the cells of the interleaving frame of its PLP
abbrev pub position_of : Config → FrameShape → ℕ → ℕ → ℕ → ℕ
position_of c shape plp block cell =
    position (block_cells c plp) (plp_at c.plps plp).interleave (slice_index shape.counts plp) block cell

-- which of the frames that carry an interleaving frame a frame is, from 0, by its number in its superframe
abbrev pub part_of : Config → ℕ → ℕ → ℕ
part_of c frame_idx plp = frame_idx % spread c.plps plp

-- the first position that the frame carries: the frames before it carry as many cells each
abbrev pub first_position : Config → FrameShape → ℕ → ℕ → ℕ
first_position c shape frame_idx plp = part_of c frame_idx plp * cells_of c shape.counts plp

-- the cell is there, and this frame carries it
pub record IsCarried (c : Config) (shape : FrameShape) (frame_idx plp block cell : ℕ) : Type 0 where
  pub there : IsCell c shape plp block cell
  pub carried : position_of c shape plp block cell / cells_of c shape.counts plp ≡ part_of c frame_idx plp

-- the address of a place among the cells of a PLP in the frame: in one slice from PLP_START on; of type 2 in
-- sub-slices, each SUB_SLICE_INTERVAL after the one before
abbrev pub address_at : Config → FrameShape → ℕ → ℕ → ℕ
address_at c shape plp place =
    if in_type2 c plp
    then slice_index shape.starts plp + place / slice_of c shape.counts plp * shape.interval
    + place % slice_of c shape.counts plp
    else slice_index shape.starts plp + place

-- the address of a cell in the frame that carries it
abbrev pub address_of : Config → FrameShape → ℕ → ℕ → ℕ → ℕ → ℕ
address_of c shape frame_idx plp block cell =
    address_at c shape plp (position_of c shape plp block cell - first_position c shape frame_idx plp)
