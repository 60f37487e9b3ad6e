-- How `Cells` goes from address to address. No public clause cites this module.
use Rattle.std.specs.Prelude.{◌≡◌, ℕ, ◌+◌, ◌*◌, ◌^◌, ◌<◌, ◌≤◌, length, take, sum, slice_index}
use Rattle.plp_config.specs.Capacity.{block_cells}
use Rattle.plp_config.specs.Plps.{plp_at}
use Rattle.plp_config.specs.declared.config.Config.{Config}
use Rattle.scheduler.specs.Shape.{FrameShape, cells_of}
use Rattle.cell_map.specs.Address.{IsCarried, first_position, address_at, address_of}
use Rattle.cell_map.specs.CellMap.{Passes}
use Rattle.cell_map.specs.Interleaver.{position}
use Rattle.cell_map.specs.declared.runs.Run.{Run}
use Rattle.cell_map.specs.declared.search.Mark.{Mark}
use Rattle.cell_map.specs.declared.strips.Cut.{Cut}

-- the place of a run in its TI-block: rows of so many columns a block
abbrev pub place_in : Run → ℕ
place_in run = run.row * (run.columns * run.size) + (run.columns * run.block + run.column)

-- the cell of a block at a position
pub record Holds (cells length n at block cell : ℕ) : Type 0 where
  pub sent : block < n
  pub within : cell < cells
  pub value : position cells length n block cell ≡ at

-- the places of a TI-block, each of whose blocks is written column by column and which is read row by row
abbrev pub HoldsAll : ℕ → ℕ → ℕ → ℕ → Run → Type 0
HoldsAll cells length n first run = (row block column : ℕ) → row < run.rows → block < run.size → column < run.columns
    → Holds cells length n (first * cells + (row * (run.columns * run.size) + (run.columns * block + column)))
    (first + block)
    (column * run.rows + row)

-- a run at a position, of no more than so many cells
pub record RunsFrom (cells length n before at limit : ℕ) (run : Run) : Type 0 where
  pub first : ℕ
  pub ordinal : run.first ≡ before + first
  pub holds : HoldsAll cells length n first run
  pub here : first * cells + place_in run ≡ at
  pub block : run.block < run.size
  pub column : run.column < run.columns
  pub some : 0 < run.left
  pub most : run.left ≤ limit
  pub within : place_in run + run.left ≤ run.rows * (run.columns * run.size)
  pub few : (run.rows < 2 ^ 15) × (run.size < 2 ^ 10) × (run.columns ≤ 5) × (run.first < 2 ^ 21)

-- the cells of the next addresses are those of a run
pub record RunsAt (c : Config) (shape : FrameShape) (frame_idx address : ℕ) (run : Run) : Type 0 where
  pub plp : ℕ
  pub at : ℕ
  pub limit : ℕ
  pub configured : plp < length c.plps
  pub runs : RunsFrom (block_cells c plp) (plp_at c.plps plp).interleave (slice_index shape.counts plp)
      (sum (take plp shape.counts)) (first_position c shape frame_idx plp + at) limit run
  pub carried : at + limit ≤ cells_of c shape.counts plp
  pub addresses : (i : ℕ) → i < limit → address_at c shape plp (at + i) ≡ address + i

-- one step on
pub record Steps (run next : Run) : Type 0 where
  pub first : next.first ≡ run.first
  pub rows : next.rows ≡ run.rows
  pub columns : next.columns ≡ run.columns
  pub size : next.size ≡ run.size
  pub place : place_in next ≡ place_in run + 1
  pub left : next.left + 1 ≡ run.left
  pub block : next.block < next.size
  pub column : next.column < next.columns

-- a run with a next cell, all of which lies in its TI-block
pub record IsInside (run : Run) : Type 0 where
  pub few : (run.rows < 2 ^ 15) × (run.size < 2 ^ 10) × (run.columns ≤ 5) × (run.first < 2 ^ 21)
  pub row : run.row < run.rows
  pub block : run.block < run.size
  pub column : run.column < run.columns
  pub some : 0 < run.left
  pub within : place_in run + run.left ≤ run.rows * (run.columns * run.size)

-- so many steps on
pub record Skips (run next : Run) (n : ℕ) : Type 0 where
  pub first : next.first ≡ run.first
  pub rows : next.rows ≡ run.rows
  pub columns : next.columns ≡ run.columns
  pub size : next.size ≡ run.size
  pub place : place_in next ≡ place_in run + n
  pub left : next.left + n ≡ run.left
  pub block : next.block < next.size
  pub column : next.column < next.columns

-- at the first column of a block of the run's row
pub record IsAtBlock (run : Run) (at count : ℕ) (next : Run) : Type 0 where
  pub first : next.first ≡ run.first
  pub rows : next.rows ≡ run.rows
  pub columns : next.columns ≡ run.columns
  pub size : next.size ≡ run.size
  pub place : place_in next ≡ run.row * (run.columns * run.size) + run.columns * at
  pub left : next.left ≡ count
  pub block : next.block < next.size
  pub column : next.column ≡ 0

-- a cell of the TI-block stands so many steps on
pub record IsNext (run : Run) (steps ordinal cell : ℕ) : Type 0 where
  pub row : ℕ
  pub block : ℕ
  pub column : ℕ
  pub in-rows : row < run.rows
  pub in-ti-block : block < run.size
  pub in-block : column < run.columns
  pub place : row * (run.columns * run.size) + (run.columns * block + column) ≡ place_in run + steps
  pub ordinal-is : ordinal ≡ run.first + block
  pub cell-is : cell ≡ column * run.rows + row

-- the next cells of a run, so many at most, and the run behind them
pub record IsCut (run : Run) (limit : ℕ) (cut : Cut) : Type 0 where
  pub cells : (b z : ℕ) → b < cut.strip.blocks → z < cut.strip.columns
      → IsNext run (cut.strip.columns * b + z) (cut.strip.first.ordinal + b)
      (cut.strip.first.cell + z * cut.strip.stride)
  pub some : 0 < cut.strip.columns * cut.strip.blocks
  pub most : cut.strip.columns * cut.strip.blocks ≤ limit
  pub skips : Skips run cut.rest (cut.strip.columns * cut.strip.blocks)

-- a PLP, and the number of blocks before it
pub record IsMark (c : Config) (shape : FrameShape) (mark : Mark) : Type 0 where
  pub inside : mark.plp ≤ length c.plps
  pub blocks : mark.before ≡ sum (take mark.plp shape.counts)
  pub small : mark.before ≤ 1023 * mark.plp

-- a PLP has no cell at so many addresses from one on
abbrev pub LeavesFree : Config → FrameShape → ℕ → ℕ → ℕ → ℕ → Type 0
LeavesFree c shape frame_idx plp address n = (block cell : ℕ) → IsCarried c shape frame_idx plp block cell
    → address ≤ address_of c shape frame_idx plp block cell → address + n ≤ address_of c shape frame_idx plp block cell

-- a PLP has a cell at an address
pub record HasCell (c : Config) (shape : FrameShape) (frame_idx plp address : ℕ) : Type 0 where
  pub block : ℕ
  pub cell : ℕ
  pub there : IsCarried c shape frame_idx plp block cell
  pub here : address_of c shape frame_idx plp block cell ≡ address

-- no cell stands at so many addresses from one on
abbrev pub AreDummy : Config → FrameShape → ℕ → ℕ → ℕ → Type 0
AreDummy c shape frame_idx address n = (plp : ℕ) → LeavesFree c shape frame_idx plp address n

-- what is known between two calls: cells in hand, or so many dummy addresses
pub record IsReading (c : Config) (shape : FrameShape) (frame_idx address : ℕ) (run : Run) (mark : Mark)
    (dummy : ℕ) : Type 0 where
  pub plps : length shape.counts ≡ length c.plps
  pub passes : Passes c shape
  pub few : c.cells < 2 ^ 32
  pub inside : address ≤ c.cells
  pub first : IsMark c shape mark
  pub next : 0 < run.left → RunsAt c shape frame_idx address run
  pub free : AreDummy c shape frame_idx address dummy
  pub one : 0 < dummy → run.left ≡ 0
