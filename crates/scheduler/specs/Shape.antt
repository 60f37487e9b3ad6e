-- The shape of a frame: where its PLPs stand (EN 302 755, clause 8). Cells have addresses from 0 on.
use Rattle.std.specs.Prelude.{ℕ, ◌+◌, ◌*◌, ◌/◌, ◌==◌, Bool, not, List, length, map, filter, replicate, sum_by}
use Rattle.std.specs.Prelude.{slice_index}
use Rattle.std.specs.Prelude.{slice_set, if◌then◌else◌}
use Rattle.std.specs.List.{range_with_len}
use Rattle.plp_config.specs.Capacity.{block_cells}
use Rattle.plp_config.specs.Plps.{plp_at, is_type2, has_type2, spread}
use Rattle.plp_config.specs.declared.config.Config.{Config}

-- what L1 tells of it: the blocks of each PLP in its interleaving frame and its first address, and the two numbers of
-- type 2
pub record FrameShape : Type 0 where
  pub counts : List ℕ
  pub starts : List ℕ
  pub interval : ℕ
  pub type2_start : ℕ

-- all its numbers are 0
abbrev pub blank : ℕ → FrameShape
blank plps = record { counts = replicate plps 0; starts = replicate plps 0; interval = 0; type2_start = 0 }

-- one PLP has other numbers
abbrev pub with_plp : FrameShape → ℕ → ℕ → ℕ → FrameShape
with_plp shape plp count start =
    record shape { counts = slice_set shape.counts plp count; starts = slice_set shape.starts plp start }

-- type 2 has other numbers
abbrev pub with_type2 : FrameShape → ℕ → ℕ → FrameShape
with_type2 shape interval start = record shape { interval = interval; type2_start = start }

-- the cells of a PLP in a frame: those of the blocks of its interleaving frame, parted among the frames that carry it
abbrev pub cells_of : Config → List ℕ → ℕ → ℕ
cells_of c counts plp = slice_index counts plp * block_cells c plp / spread c.plps plp

-- the cells of a PLP of type 2 in one of its sub-slices, which are alike
abbrev pub slice_of : Config → List ℕ → ℕ → ℕ
slice_of c counts plp = cells_of c counts plp / c.sub_slices

-- the PLPs of type 2 before a place, by their places, and the others, common and of type 1, which stand in one slice
-- each
abbrev pub in_type2 : Config → ℕ → Bool
in_type2 c plp = is_type2 (plp_at c.plps plp).plp_type

abbrev pub type2_before : Config → ℕ → List ℕ
type2_before c place = filter (in_type2 c) (range_with_len 0 place)

abbrev pub type1_before : Config → ℕ → List ℕ
type1_before c place = filter (λ plp. not (in_type2 c plp)) (range_with_len 0 place)

-- TYPE_2_START: the PLPs of type 2 stand behind all cells of the others; 0 if there are none
unfoldable pub type2_start_of : Config → List ℕ → ℕ
type2_start_of c counts = if has_type2 c.plps then sum_by (cells_of c counts) (type1_before c (length c.plps)) else 0

-- SUB_SLICE_INTERVAL: one sub-slice of each PLP of type 2, so all their cells, divided by the number of sub-slices
unfoldable pub interval_of : Config → List ℕ → ℕ
interval_of c counts = sum_by (cells_of c counts) (type2_before c (length c.plps)) / c.sub_slices

-- PLP_START: behind the cells of the PLPs before it; of type 2, behind the first sub-slices of those of type 2; 0
-- without a block
unfoldable pub start_of : Config → List ℕ → ℕ → ℕ
start_of c counts plp =
    if slice_index counts plp == 0 then 0
    else if in_type2 c plp then type2_start_of c counts + sum_by (slice_of c counts) (type2_before c plp)
    else sum_by (cells_of c counts) (type1_before c plp)

-- the shape of a frame whose PLPs have so many blocks
unfoldable pub shape_of : Config → List ℕ → FrameShape
shape_of c counts = record {
  counts = counts;
  starts = map (start_of c counts) (range_with_len 0 (length c.plps));
  interval = interval_of c counts;
  type2_start = type2_start_of c counts;
}
