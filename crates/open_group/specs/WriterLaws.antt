-- Laws of what a writer gives.
use Rattle.std.specs.Prelude.{◌≡◌, ℕ, ◌+◌, ◌<◌, ◌≤◌, ◌^◌, Bool, List, [], ◌++◌, length, sum_by, slice_index_or}
use Rattle.std.specs.List.{concat}
use Rattle.plp_config.specs.Capacity.{IsPlan, block_bytes}
use Rattle.plp_config.specs.Emission.{emission}
use Rattle.plp_config.specs.Places.{places}
use Rattle.plp_config.specs.declared.config.Config.{Config}
use Rattle.plp_config.specs.declared.moment.Moment.{Moment}
use Rattle.scheduler.specs.Shape.{FrameShape}
use Rattle.cell_map.specs.CellMap.{Passes}
use Rattle.linked_pool.specs.Pool.{State, empty, appended}
use Rattle.record_laws.specs.Frames.{frame_view, HasByteIds}
use Rattle.record_laws.specs.Laws.{rest_size}
use Rattle.site_frame.specs.Whole.{written_rest, record_bytes, FitsRecord}
use Rattle.site_frame.specs.Record.{head_bytes, muted_kind}
use Rattle.site_frame.specs.declared.reading.RecordView.{RecordView}
use Rattle.site_frame.specs.declared.reading.RecordView.TheVariants.{Muted}
use Rattle.plp_config.specs.declared.plp.TheConstants.{MOST_BLOCK_BYTES}
use Rattle.open_group.specs.RecordBytes.{AreShort, own_count, list_at, list_blocks}
use Rattle.l1_signal.specs.Lengths.{conf_len, dyn_len}
use Rattle.l1_signal.specs.declared.lengths.TheConstants.{CRC_BITS}
use Rattle.open_group.specs.Front.{post_with, front_bytes}
use Rattle.open_group.specs.Steps.{step_bytes}
use Rattle.open_group.specs.declared.step.Step.TheVariants.{Blocks}

-- the frame of this number in its superframe, whose blocks are in lists, one for each PLP
abbrev pub written_frame : Config → Moment → ℕ → List Bool → FrameShape → List (List (List ℕ)) → RecordView
written_frame c moment frame_idx dynamic shape lists =
    frame_view c moment frame_idx (post_with c dynamic) (list_blocks c 0 lists) shape

-- What a writer gives of a frame is its record, if it was told how many blocks there are and how many bytes follow the
-- head.
abbrev pub RecordWritten : Type 0
RecordWritten = (c : Config) (moment : Moment) (frame_idx : ℕ) (dynamic : List Bool) (shape : FrameShape)
    (lists : List (List (List ℕ)))
    → front_bytes c moment dynamic (length (list_blocks c 0 lists))
    (length (concat (written_rest (written_frame c moment frame_idx dynamic shape lists))))
    ++ step_bytes c shape frame_idx lists (Blocks 0)
    ≡ record_bytes (written_frame c moment frame_idx dynamic shape lists)

-- What it gives of a muted one is its record.
abbrev pub MutedWritten : Type 0
MutedWritten = (moment : Moment) → head_bytes muted_kind moment 0 ≡ record_bytes (Muted moment)

-- In the lists are so many blocks of each PLP, each of the length that blocks of the PLP have.
pub record HasBlocks (c : Config) (count : ℕ → ℕ) (lists : List (List (List ℕ))) : Type 0 where
  pub plps : length lists ≡ length c.plps
  pub counts : (plp : ℕ) → plp < length lists → length (list_at lists plp) ≡ count plp
  pub each : (plp place : ℕ) → place < length (list_at lists plp) → length (slice_index_or (list_at lists plp) place [])
      ≡ block_bytes c plp

-- So many blocks there are.
abbrev pub BlockCount : Type 0
BlockCount = (c : Config) (count : ℕ → ℕ) (lists : List (List (List ℕ))) → HasBlocks c count lists
    → length (list_blocks c 0 lists) ≡ sum_by count (places c)

-- the bits of L1-post with a dynamic part of so many: the configurable part, this one, and the CRC_32
abbrev pub post_size : Config → ℕ → ℕ
post_size c dynamic = conf_len (length c.plps) + dynamic + CRC_BITS

-- So many bytes follow the head.
abbrev pub RestLength : Type 0
RestLength = (c : Config) (moment : Moment) (frame_idx : ℕ) (dynamic : List Bool) (shape : FrameShape) (count : ℕ → ℕ)
    (lists : List (List (List ℕ))) → HasBlocks c count lists
    → length (concat (written_rest (written_frame c moment frame_idx dynamic shape lists)))
    ≡ rest_size c (post_size c (length dynamic)) count

-- A frame of a plan fits a record, if its dynamic part has no more bits than those of the plan: so what is written of
-- it spells it, and is read back.
abbrev pub RecordFits : Type 0
RecordFits = (c : Config) (n frame_idx : ℕ) (dynamic : List Bool) (shape : FrameShape) (lists : List (List (List ℕ)))
    → IsPlan c → HasByteIds c → n < 2 ^ 32
    → length dynamic ≤ dyn_len (length c.plps) → length shape.counts ≡ length c.plps → Passes c shape
    → HasBlocks c (own_count c n shape) lists
    → FitsRecord (written_frame c (emission c n) frame_idx dynamic shape lists)

-- The lists of a pool without blocks are short, and stay so if a short block is appended.
abbrev pub EmptyIsShort : Type 0
EmptyIsShort = (chunks lists : ℕ) → AreShort (empty chunks lists).lists

abbrev pub AppendedIsShort : Type 0
AppendedIsShort = (pool : State) (list : ℕ) (block : List ℕ) → list < length pool.lists → AreShort pool.lists
    → length block ≤ MOST_BLOCK_BYTES → AreShort (appended pool list block).lists
