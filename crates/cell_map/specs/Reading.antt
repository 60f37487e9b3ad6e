-- What `Cells` is seen as.
use Rattle.std.specs.Prelude.{ℕ, ◌+◌}
use Rattle.plp_config.specs.declared.config.Config.{Config}
use Rattle.scheduler.specs.Shape.{FrameShape}

-- a frame whose cells are read, and the next address
pub record Reading : Type 0 where
  pub config : Config
  pub shape : FrameShape
  pub frame_idx : ℕ
  pub address : ℕ

-- so many cells were read
abbrev pub reading_at : Config → FrameShape → ℕ → ℕ → Reading
reading_at c shape frame_idx address = record { config = c; shape = shape; frame_idx = frame_idx; address = address }

-- one cell more
abbrev pub next_address : Reading → Reading
next_address reading = record reading { address = reading.address + 1 }
