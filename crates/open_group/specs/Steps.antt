-- What stands behind the piece in hand of a writer.
use Rattle.std.specs.Prelude.{◌≡◌, ℕ, ◌-◌, ◌≤◌, List, [], ◌++◌, length, drop}
use denote.Struct.Props as logic
use Rattle.byteorder.specs.Endian.{big_bytes}
use Rattle.plp_config.specs.declared.config.Config.{Config}
use Rattle.scheduler.specs.Shape.{FrameShape}
use Rattle.cell_map.specs.CellMap.{Passes}
use Rattle.site_frame.specs.Words.{words}
use Rattle.open_group.specs.RecordBytes.{AreShort, lists_bytes}
use Rattle.open_group.specs.declared.step.Step.{Step}
use Rattle.open_group.specs.declared.step.Step.TheVariants.{Blocks, Cells, Done}

-- the blocks from a PLP on, the number of cells, and these; or the cells from an address on. The frame is told by its
-- number in its superframe
abbrev pub step_bytes : Config → FrameShape → ℕ → List (List (List ℕ)) → Step → List ℕ
step_bytes c shape frame_idx lists (Blocks plp) =
    lists_bytes c plp (drop plp lists) ++ (big_bytes 4 c.cells ++ words c shape frame_idx 0 c.cells)
step_bytes c shape frame_idx lists (Cells address) = words c shape frame_idx address (c.cells - address)
step_bytes c shape frame_idx lists Done = []

-- A shape is for as many PLPs, and has a cell map.
pub record HasMap (c : Config) (shape : FrameShape) : Type 0 where
  pub plps : length shape.counts ≡ length c.plps
  pub passes : Passes c shape

-- There is a list of short blocks for each PLP.
pub record HasLists (c : Config) (lists : List (List (List ℕ))) : Type 0 where
  pub plps : length lists ≡ length c.plps
  pub short : AreShort lists

-- A step can be taken.
abbrev pub IsStep : Config → FrameShape → List (List (List ℕ)) → Step → Type 0
IsStep c shape lists (Blocks plp) = (plp ≤ length lists) × HasLists c lists × HasMap c shape
IsStep c shape lists (Cells address) = (address ≤ c.cells) × HasMap c shape
IsStep c shape lists Done = Unit {0}

-- That has one proof at most, so it may be a ghost field.
pub IsStep-prop : (c : Config) (shape : FrameShape) (lists : List (List (List ℕ))) (step : Step)
    → IsProp (IsStep c shape lists step)
IsStep-prop c shape lists (Blocks plp) = Prim.hlevel logic.props
IsStep-prop c shape lists (Cells address) = Prim.hlevel logic.props
IsStep-prop c shape lists Done = Prim.hlevel logic.props
