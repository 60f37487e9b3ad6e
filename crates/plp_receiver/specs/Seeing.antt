-- Going over the cells of a record beside those of the map. No public clause cites this module.
use Rattle.std.specs.Prelude.{ℕ, ◌==◌, ◌||◌, not, Bool, true, List, slice_get, Option, Some, None}
use Rattle.std.specs.FinMap.{get}
use Rattle.std.specs.List.{list_all, range_with_len}
use Rattle.plp_config.specs.declared.config.Config.{Config}
use Rattle.scheduler.specs.Shape.{FrameShape}
use Rattle.cell_map.specs.CellMap.{cell_map}
use Rattle.cell_map.specs.declared.places.Cell.{Cell}
use Rattle.frame_groups.specs.MapTest.{each_below}
use Rattle.plp_receiver.specs.Parts.{is_cell}

-- if the map has a cell of the block with an ordinal, it is what is found
abbrev pub is_right : ℕ → Option Cell → Option (Option Cell) → Bool
is_right ordinal None found = true
is_right ordinal (Some x) found = not (x.ordinal == ordinal) || is_cell x.ordinal x.cell found

abbrev pub is_seen : ℕ → Option Cell → Option Cell → Bool
is_seen ordinal expected found = is_right ordinal expected (Some found)

abbrev pub right_at : Config → FrameShape → ℕ → List (Option Cell) → ℕ → ℕ → Bool
right_at c shape frame_idx cells ordinal address = is_right ordinal (get (cell_map c shape frame_idx) address)
    (slice_get cells address)

-- and so it is at so many addresses from one on
abbrev pub seen_from : Config → FrameShape → ℕ → List (Option Cell) → ℕ → ℕ → ℕ → Bool
seen_from c shape frame_idx cells ordinal address n = list_all (right_at c shape frame_idx cells ordinal)
    (range_with_len address n)

-- and at each
abbrev pub all_seen : Config → FrameShape → ℕ → List (Option Cell) → ℕ → Bool
all_seen c shape frame_idx cells ordinal = each_below c.cells (right_at c shape frame_idx cells ordinal)
