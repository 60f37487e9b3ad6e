-- What a readable record tells, and which of its cells stand (EN 302 755, clauses 6.5 and 8).
use Rattle.std.specs.Prelude.{ℕ, ◌%◌, ◌==◌, ◌&&◌, ◌||◌, not, Bool, false, List, slice_get, slice_index, Option, Some}
use Rattle.std.specs.Prelude.{None}
use Rattle.plp_config.specs.Capacity.{block_cells}
use Rattle.plp_config.specs.declared.config.Config.{Config}
use Rattle.scheduler.specs.Shape.{FrameShape}
use Rattle.cell_map.specs.Address.{address_of}
use Rattle.cell_map.specs.CellMap.{ordinal_of, is_carried}
use Rattle.cell_map.specs.declared.places.Cell.{Cell}
use Rattle.site_frame.specs.Record.{Block}
use Rattle.frame_groups.specs.MapTest.{each_below}

-- what stands at an address is the cell
abbrev pub is_cell : ℕ → ℕ → Option (Option Cell) → Bool
is_cell ordinal cell None = false
is_cell ordinal cell (Some None) = false
is_cell ordinal cell (Some (Some x)) = (x.ordinal == ordinal) && (x.cell == cell)

-- what a readable record tells: the number of its frame, and the shape; its blocks, and the words of its cells
pub record Part : Type 0 where
  pub number : ℕ
  pub shape : FrameShape
  pub blocks : List Block
  pub cells : List (Option Cell)

abbrev pub part_with : ℕ → List Block → FrameShape → List (Option Cell) → Part
part_with n blocks shape cells = record { number = n; shape = shape; blocks = blocks; cells = cells }

-- how many blocks the interleaving frame has that it carries
abbrev pub count_of : ℕ → Part → ℕ
count_of plp p = slice_index p.shape.counts plp

-- a cell of a block stands at its address, if the frame carries it
abbrev pub stands : Config → Part → ℕ → ℕ → ℕ → Bool
stands c p plp block cell =
    not (is_carried c p.shape (p.number % c.frames) plp block cell)
    || is_cell (ordinal_of p.shape plp block) cell
    (slice_get p.cells (address_of c p.shape (p.number % c.frames) plp block cell))

-- and so does each cell of the block
unfoldable pub all_stand : Config → ℕ → Part → ℕ → Bool
all_stand c plp p block = each_below (block_cells c plp) (stands c p plp block)
