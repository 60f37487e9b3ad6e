-- The sequence of the scrambler, many bytes at a time.
use Rattle.std.specs.Prelude.{◌≡◌, ℕ, ◌+◌, ◌<◌, List, slice_index}
use Rattle.bit_slice.specs.Prbs.{prbs_byte}
use Rattle.bit_slice.specs.declared.prbs_blocks.PrbsBlocks.{PrbsBlocks}

-- The bytes are 120 of the sequence, from one on.
abbrev pub Runs : List ℕ → ℕ → Type 0
Runs bytes from = (k : ℕ) → k < 120 → slice_index bytes k ≡ prbs_byte (from + k)

-- So many bytes were passed, and those that follow are held.
pub record PrbsBlocksStandsFor (blocks : PrbsBlocks) (passed : ℕ) : Type 0 where
  pub bytes : Runs blocks.bytes passed
