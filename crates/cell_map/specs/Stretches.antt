-- What stands at successive addresses.
use Rattle.std.specs.Prelude.{◌≡◌, ℕ, ◌+◌, ◌*◌, ◌<◌, Some, None}
use Rattle.std.specs.FinMap.{get}
use Rattle.plp_config.specs.declared.config.Config.{Config}
use Rattle.scheduler.specs.Shape.{FrameShape}
use Rattle.cell_map.specs.CellMap.{cell_map}
use Rattle.cell_map.specs.declared.strips.Strip.{Strip}
use Rattle.cell_map.specs.declared.strips.Stretch.{Stretch}
use Rattle.cell_map.specs.declared.strips.Stretch.TheVariants.{Dummy, Blocks}

-- how many addresses these are
abbrev pub stretch_len : Stretch → ℕ
stretch_len (Dummy count) = count
stretch_len (Blocks strip) = strip.columns * strip.blocks

-- The map has the cells of a strip at the addresses from one on: block after block.
abbrev pub HasStrip : Config → FrameShape → ℕ → ℕ → Strip → Type 0
HasStrip c shape frame_idx address strip = (b z : ℕ) → b < strip.blocks → z < strip.columns
    → get (cell_map c shape frame_idx) (address + (strip.columns * b + z))
    ≡ Some (record { ordinal = strip.first.ordinal + b; cell = strip.first.cell + z * strip.stride })

-- The same of what stands there.
abbrev pub HasStretch : Config → FrameShape → ℕ → ℕ → Stretch → Type 0
HasStretch c shape frame_idx address (Dummy count) = (i : ℕ) → i < count
    → get (cell_map c shape frame_idx) (address + i) ≡ None
HasStretch c shape frame_idx address (Blocks strip) = HasStrip c shape frame_idx address strip
