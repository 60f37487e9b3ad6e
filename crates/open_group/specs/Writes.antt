-- What a writer stands for.
use Rattle.std.specs.Prelude.{◌≡◌, ℕ, ◌+◌, ◌*◌, ◌==◌, Bool, List, ◌++◌, length, drop}
use Rattle.linked_pool.specs.Pool.{chunk_len}
use Rattle.plp_config.specs.declared.config.Config.{Config}
use Rattle.scheduler.specs.Shape.{FrameShape}
use Rattle.open_group.specs.RecordBytes.{piece_len}
use Rattle.open_group.specs.Steps.{step_bytes, IsStep, IsStep-prop}
use Rattle.open_group.specs.declared.step.Step.TheVariants.{Done}
use Rattle.open_group.specs.declared.writer.Writer.{Writer}

-- the bytes that it still has to give, of a frame of this shape whose blocks wait in the lists
abbrev pub bytes_left : Writer → Config → FrameShape → List (List (List ℕ)) → List ℕ
bytes_left w c shape lists = drop w.at w.piece ++ step_bytes c shape w.frame_idx lists w.step

-- the most bytes of a frame's record whose blocks fill so many chunks: its front, the blocks with a head for each
-- chunk, the number of cells, and these
abbrev pub most_record : Config → ℕ → ℕ
most_record c chunks = piece_len + (4 + chunk_len) * chunks + 4 + 4 * c.cells

-- The step behind its piece can be taken.
abbrev pub IsReady : Writer → Config → FrameShape → List (List (List ℕ)) → Type 0
IsReady w c shape lists = IsStep c shape lists w.step

-- that has one proof at most, so it may be a ghost field
pub IsReady-prop : (w : Writer) (c : Config) (shape : FrameShape) (lists : List (List (List ℕ)))
    → IsProp (IsReady w c shape lists)
IsReady-prop w c shape lists = IsStep-prop c shape lists w.step

-- Nothing stands behind its piece.
abbrev pub IsLast : Writer → Type 0
IsLast w = w.step ≡ Done

-- All bytes were given.
abbrev pub is_done : Writer → Bool
is_done w = w.at == length w.piece
