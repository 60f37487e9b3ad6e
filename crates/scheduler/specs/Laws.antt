-- Laws of the shape.
use Rattle.std.specs.Prelude.{◌≡◌, ℕ, ◌+◌, ◌-◌, ◌*◌, ◌<◌, ◌≤◌, ◌^◌, true, false, List, length, slice_index}
use Rattle.plp_config.specs.Capacity.{IsPlan, block_cells}
use Rattle.plp_config.specs.Plps.{plp_at, StandsAlone}
use Rattle.plp_config.specs.declared.config.Config.{Config}
use Rattle.scheduler.specs.Shape.{FrameShape, cells_of, slice_of, in_type2, shape_of}

-- one number of blocks for each PLP, none above its maximum
pub record CountsFit (c : Config) (counts : List ℕ) : Type 0 where
  pub whole : length counts ≡ length c.plps
  pub within : (plp : ℕ) → plp < length c.plps → slice_index counts plp ≤ (plp_at c.plps plp).blocks

-- each number fits its field of L1-post (EN 302 755, clause 7.2.3.2)
pub record FitsL1 (shape : FrameShape) : Type 0 where
  pub counts : (plp : ℕ) → slice_index shape.counts plp < 2 ^ 10
  pub starts : (plp : ℕ) → slice_index shape.starts plp < 2 ^ 22
  pub interval : shape.interval < 2 ^ 22
  pub type2_start : shape.type2_start < 2 ^ 22

abbrev pub ShapeFitsL1 : Type 0
ShapeFitsL1 = (c : Config) (counts : List ℕ) → IsPlan c → CountsFit c counts → FitsL1 (shape_of c counts)

-- a PLP has blocks in the frame, and is in one slice, common or of type 1, or of type 2
abbrev pub IsSent1 : Config → FrameShape → ℕ → Type 0
IsSent1 c shape plp = (plp < length c.plps) × (0 < slice_index shape.counts plp) × (in_type2 c plp ≡ false)

abbrev pub IsSent2 : Config → FrameShape → ℕ → Type 0
IsSent2 c shape plp = (plp < length c.plps) × (0 < slice_index shape.counts plp) × (in_type2 c plp ≡ true)

-- the PLPs with blocks stand one behind the other: those in one slice, and behind them the sub-slices of type 2, which
-- stand within an interval; and the last ends within the frame
pub record StandsInOrder (c : Config) (shape : FrameShape) : Type 0 where
  pub type1 : (i j : ℕ) → i < j → IsSent1 c shape i → IsSent1 c shape j
      → slice_index shape.starts i + cells_of c shape.counts i
      ≤ slice_index shape.starts j
  pub types : (i j : ℕ) → IsSent1 c shape i → IsSent2 c shape j → slice_index shape.starts i + cells_of c shape.counts i
      ≤ slice_index shape.starts j
  pub type2 : (i j : ℕ) → i < j → IsSent2 c shape i → IsSent2 c shape j
      → slice_index shape.starts i + slice_of c shape.counts i
      ≤ slice_index shape.starts j
  pub interval : (i j : ℕ) → IsSent2 c shape i → IsSent2 c shape j → slice_index shape.starts j + slice_of
      c shape.counts j
      ≤ slice_index shape.starts i + shape.interval
  pub end1 : (i : ℕ) → IsSent1 c shape i → slice_index shape.starts i + cells_of c shape.counts i ≤ c.cells
  pub end2 : (i : ℕ) → IsSent2 c shape i → slice_index shape.starts i + (c.sub_slices - 1) * shape.interval
      + slice_of c shape.counts i ≤ c.cells

abbrev pub ShapeStandsInOrder : Type 0
ShapeStandsInOrder = (c : Config) (counts : List ℕ) → IsPlan c → CountsFit c counts
    → StandsInOrder c (shape_of c counts)

-- the numbers of blocks are the given ones
abbrev pub ShapeHasCounts : Type 0
ShapeHasCounts = (c : Config) (counts : List ℕ) → (shape_of c counts).counts ≡ counts

-- if the interleaving frames of a PLP are carried by one frame each, this frame carries all cells of their blocks
abbrev pub ShapeAlone : Type 0
ShapeAlone = (c : Config) (counts : List ℕ) (plp : ℕ) → StandsAlone c.plps plp
    → cells_of c counts plp ≡ slice_index counts plp * block_cells c plp
