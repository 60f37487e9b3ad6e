-- The words of cells, as a record has them.
use Rattle.std.specs.Prelude.{ℕ, List}
use Rattle.std.specs.FinMap.{get}
use Rattle.std.specs.List.{flat_map, range_with_len}
use Rattle.plp_config.specs.declared.config.Config.{Config}
use Rattle.scheduler.specs.Shape.{FrameShape}
use Rattle.cell_map.specs.CellMap.{cell_map}
use Rattle.site_frame.specs.Record.{cell_bytes}

-- the words of so many cells of a frame from an address on; the frame is told by its number in its superframe
abbrev pub words : Config → FrameShape → ℕ → ℕ → ℕ → List ℕ
words c shape frame_idx address count = flat_map (λ a. cell_bytes (get (cell_map c shape frame_idx) a))
    (range_with_len address count)
