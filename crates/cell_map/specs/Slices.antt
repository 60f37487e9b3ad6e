-- How the code sees the cells of a PLP: slices of one length at equal distances. No public clause cites this module.
use Rattle.std.specs.Prelude.{◌≡◌, ℕ, ◌+◌, ◌*◌, ◌/◌, ◌%◌, ◌<◌, ◌≤◌, slice_index, if◌then◌else◌}
use Rattle.plp_config.specs.Capacity.{block_cells}
use Rattle.plp_config.specs.Plps.{plp_at, spread}
use Rattle.plp_config.specs.declared.config.Config.{Config}
use Rattle.scheduler.specs.Shape.{FrameShape, in_type2, cells_of}
use Rattle.cell_map.specs.Address.{IsCarried, address_of}
use Rattle.cell_map.specs.declared.interleaving.Place.{Place}
use Rattle.cell_map.specs.declared.rows.Row.{Row}
use Rattle.cell_map.specs.declared.slices.Slices.{Slices}

-- the slices of a PLP in a frame
abbrev pub slice_count : Config → ℕ → ℕ
slice_count c plp = if in_type2 c plp then c.sub_slices else 1

abbrev pub slices_of : Config → FrameShape → ℕ → Slices
slices_of c shape plp = record {
  start = slice_index shape.starts plp;
  len = cells_of c shape.counts plp / slice_count c plp;
  count = slice_count c plp;
}

-- what the code needs of a PLP
pub record IsRow (c : Config) (plp : ℕ) (row : Row) : Type 0 where
  pub cells : row.cells ≡ block_cells c plp
  pub blocks : row.blocks ≡ (plp_at c.plps plp).blocks
  pub interleave : row.interleave ≡ (plp_at c.plps plp).interleave
  pub spread-is : row.spread ≡ spread c.plps plp
  pub slices : row.slices ≡ slice_count c plp
  pub fifth : row.cells % 5 ≡ 0
  pub least : 2025 ≤ row.cells
  pub greatest : row.cells ≤ 32400
  pub few : row.blocks ≤ 1023
  pub short : row.interleave ≤ 255
  pub some : 1 ≤ row.slices
  pub most : row.slices ≤ 6480
  pub wide : 1 ≤ row.spread
  pub whole : row.cells % row.spread ≡ 0

-- two intervals have a number in common
abbrev pub Meets : ℕ → ℕ → ℕ → ℕ → Type 0
Meets a la b lb = (a < b + lb) × (b < a + la)

abbrev pub SliceMeets : ℕ → ℕ → Slices → ℕ → Type 0
SliceMeets start len slices interval = (k : ℕ) × (k < slices.count) × Meets start len (slices.start + k * interval)
    slices.len

abbrev pub SlicesMeet : Slices → Slices → ℕ → Type 0
SlicesMeet a b interval =
    (j : ℕ) × ((k : ℕ) × (j < a.count) × (k < b.count) × Meets (a.start + j * interval) a.len (b.start + k * interval)
    b.len)

-- an address is in one of the slices
pub record IsIn (slices : Slices) (interval address : ℕ) : Type 0 where
  pub slice : ℕ
  pub inner : ℕ
  pub some : slice < slices.count
  pub within : inner < slices.len
  pub here : slices.start + slice * interval + inner ≡ address

-- the cell of a PLP at an address
pub record PlaceOf (c : Config) (shape : FrameShape) (frame_idx plp address : ℕ) (place : Place) : Type 0 where
  pub there : IsCarried c shape frame_idx plp place.block place.cell
  pub value : address_of c shape frame_idx plp place.block place.cell ≡ address
