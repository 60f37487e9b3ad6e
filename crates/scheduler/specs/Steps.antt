-- How the code goes from PLP to PLP. No public clause cites this module.
use Rattle.std.specs.Prelude.{◌≡◌, ℕ, ◌+◌, List, ◌++◌, take, drop, map, sum_by}
use Rattle.std.specs.List.{range_with_len}
use Rattle.plp_config.specs.declared.config.Config.{Config}
use Rattle.scheduler.specs.Shape.{FrameShape, cells_of, slice_of, type1_before, type2_before, type2_start_of}
use Rattle.scheduler.specs.Shape.{interval_of}
use Rattle.scheduler.specs.Shape.{start_of}
use Rattle.scheduler.specs.declared.frame.Cells.{Cells}

-- the cells of the PLPs before a place, by type
pub record AreBefore (c : Config) (counts : List ℕ) (place : ℕ) (cells : Cells) : Type 0 where
  pub type1 : cells.type1 ≡ sum_by (cells_of c counts) (type1_before c place)
  pub type2 : cells.type2 ≡ sum_by (cells_of c counts) (type2_before c place)

-- where the next PLP starts, if it is of type 1, and if it is of type 2
pub record AreNext (c : Config) (counts : List ℕ) (place : ℕ) (next : Cells) : Type 0 where
  pub type1 : next.type1 ≡ sum_by (cells_of c counts) (type1_before c place)
  pub type2 : next.type2 ≡ type2_start_of c counts + sum_by (slice_of c counts) (type2_before c place)

-- the PLPs before a place have their numbers, and the others those of an old shape
abbrev pub shape_until : Config → List ℕ → FrameShape → ℕ → FrameShape
shape_until c counts old place = record {
  counts = take place counts ++ drop place old.counts;
  starts = map (start_of c counts) (range_with_len 0 place) ++ drop place old.starts;
  interval = interval_of c counts;
  type2_start = type2_start_of c counts;
}
