-- How a record is spelled, section by section. Numbers are big-endian.
use Rattle.std.specs.Prelude.{ℕ, ◌+◌, ◌*◌, ◌/◌, ◌%◌, ◌<◌, ◌^◌, ◌==◌, List, [], ◌∷◌, ◌++◌, length, Option, Some, None}
use Rattle.std.specs.Prelude.{if◌then◌else◌}
use Rattle.byteorder.specs.Endian.{big_bytes}
use Rattle.cell_map.specs.declared.places.Cell.{Cell}
use Rattle.plp_config.specs.declared.moment.Moment.{Moment}

-- a block: the PLP that it belongs to, and its scrambled bytes
pub record Block : Type 0 where
  pub plp_id : ℕ
  pub bytes : List ℕ

-- the kinds of records: a frame, or one that is muted
abbrev pub frame_kind : ℕ
frame_kind = 1

abbrev pub muted_kind : ℕ
muted_kind = 2

-- the bytes of a head, and of L1-pre with its CRC_32
abbrev pub head_len : ℕ
head_len = 24

abbrev pub pre_len : ℕ
pre_len = 25

-- the numbers of the head: seconds, subseconds, length of the rest
abbrev pub head_numbers : Moment → ℕ → List ℕ
head_numbers moment rest = big_bytes 8 moment.seconds ++ (big_bytes 4 moment.subseconds ++ big_bytes 4 rest)

-- the head: "T2FR", the kind, three zeros, and the numbers
abbrev pub head_bytes : ℕ → Moment → ℕ → List ℕ
head_bytes kind moment rest = 0x54 ∷ 0x32 ∷ 0x46 ∷ 0x52 ∷ kind ∷ 0 ∷ 0 ∷ 0 ∷ head_numbers moment rest

-- a block: its PLP, a byte that decides nothing, the number of its bytes, and these
abbrev pub block_bytes : Block → ℕ → List ℕ
block_bytes b second = b.plp_id ∷ second ∷ (big_bytes 2 (length b.bytes) ++ b.bytes)

-- blocks, each with its second byte: 0 if none is told
abbrev pub blocks_bytes : List Block → List ℕ → List ℕ
blocks_bytes [] ignored = []
blocks_bytes (b ∷ bs) [] = block_bytes b 0 ++ blocks_bytes bs []
blocks_bytes (b ∷ bs) (second ∷ ignored) = block_bytes b second ++ blocks_bytes bs ignored

-- the word of a dummy cell
abbrev pub dummy_word : ℕ
dummy_word = 0xFFFFFFFF

-- the words of one block: its cells are fewer
abbrev pub block_words : ℕ
block_words = 32768

-- the word of what stands at an address: a cell, by the ordinal of its block and its number there, or nothing
abbrev pub word_of : Option Cell → ℕ
word_of None = dummy_word
word_of (Some cell) = cell.ordinal * block_words + cell.cell

-- what a word spells
abbrev pub cell_of : ℕ → Option Cell
cell_of word = if word == dummy_word then None else Some
    (record { ordinal = word / block_words; cell = word % block_words })

-- the words of cells
abbrev pub cell_bytes : Option Cell → List ℕ
cell_bytes cell = big_bytes 4 (word_of cell)

-- A block fits its numbers.
abbrev pub FitsBlock : Block → Type 0
FitsBlock b = (b.plp_id < 256) × (length b.bytes < 2 ^ 16)

-- A cell fits its word, which is not that of a dummy cell.
abbrev pub FitsCell : Option Cell → Type 0
FitsCell None = Unit {0}
FitsCell (Some cell) = (cell.cell < block_words) × (word_of (Some cell) < dummy_word)

abbrev pub FitsMoment : Moment → Type 0
FitsMoment moment = (moment.seconds < 2 ^ 64) × (moment.subseconds < 2 ^ 32)
