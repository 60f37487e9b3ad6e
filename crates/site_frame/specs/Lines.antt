-- How words are written many at once. No public clause cites this module.
use Rattle.std.specs.Prelude.{◌≡◌, ℕ, ◌+◌, ◌*◌, ◌<◌, ◌≤◌, ◌^◌, List}
use Rattle.std.specs.FinMap.{get}
use Rattle.std.specs.List.{flat_map, range_with_len}
use Rattle.byteorder.specs.Endian.{big_bytes}
use Rattle.plp_config.specs.declared.config.Config.{Config}
use Rattle.scheduler.specs.Shape.{FrameShape}
use Rattle.cell_map.specs.CellMap.{cell_map}
use Rattle.cell_map.specs.Stretches.{HasStrip}
use Rattle.cell_map.specs.declared.strips.Strip.{Strip}
use Rattle.cell_map.specs.declared.strips.Stretch.{Stretch}
use Rattle.cell_map.specs.declared.strips.Stretch.TheVariants.{Dummy, Blocks}
use Rattle.site_frame.specs.Record.{block_words, word_of}

-- so many words, each greater by a stride than the one before
abbrev pub line_bytes : ℕ → ℕ → ℕ → List ℕ
line_bytes word stride n = flat_map (λ z. big_bytes 4 (word + z * stride)) (range_with_len 0 n)

-- the word of a strip's first cell of a block, and the words of its first blocks
abbrev pub first_word : Strip → ℕ → ℕ
first_word strip b = (strip.first.ordinal + b) * block_words + strip.first.cell

abbrev pub strip_bytes : Strip → ℕ → List ℕ
strip_bytes strip n = flat_map (λ b. line_bytes (first_word strip b) strip.stride strip.columns) (range_with_len 0 n)

-- The numbers of a strip's cells are small.
pub record FitsStrip (strip : Strip) : Type 0 where
  pub blocks : strip.first.ordinal + strip.blocks ≤ 2 ^ 16
  pub first : strip.first.cell < 2 ^ 15
  pub cells : (z : ℕ) → z < strip.columns → strip.first.cell + z * strip.stride < 2 ^ 15

abbrev pub FitsStretch : Stretch → Type 0
FitsStretch (Dummy count) = Unit {0}
FitsStretch (Blocks strip) = FitsStrip strip

-- ---- rows that repeat the row before

-- the words of a row are those of the row before, each greater by 1
pub record IsAgain (c : Config) (shape : FrameShape) (frame_idx address width : ℕ) : Type 0 where
  pub next : (k : ℕ) → k < width → word_of (get (cell_map c shape frame_idx) (address + width + k))
      ≡ word_of (get (cell_map c shape frame_idx) (address + k)) + 1
  pub small : (k : ℕ) → k < width → word_of (get (cell_map c shape frame_idx) (address + k)) + 1 < 2 ^ 32

-- each cell of a strip is followed by that of another
pub record Follows (old new : Strip) : Type 0 where
  pub some : 0 < old.blocks
  pub blocks : old.blocks ≡ new.blocks
  pub columns : old.columns ≡ new.columns
  pub stride : old.stride ≡ new.stride
  pub ordinal : old.first.ordinal ≡ new.first.ordinal
  pub cell : old.first.cell + 1 ≡ new.first.cell

-- of so many words from an address on the last are those of a strip
pub record IsLast (c : Config) (shape : FrameShape) (frame_idx address done : ℕ) (strip : Strip) : Type 0 where
  pub before : ℕ
  pub here : before + strip.columns * strip.blocks ≡ done
  pub has : HasStrip c shape frame_idx (address + before) strip

-- the strip of a stretch, or one without blocks
abbrev pub IsStripOf : Stretch → Strip → Type 0
IsStripOf (Dummy count) strip = strip.blocks ≡ 0
IsStripOf (Blocks it) strip = strip ≡ it
