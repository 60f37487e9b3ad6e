-- Blocks as they are held.
use Rattle.std.specs.Prelude.{ℕ, Bool, List}
use Rattle.terms.specs.Bits.{bytes_of}

-- the bytes of a block
abbrev pub held_bytes : List Bool → List ℕ
held_bytes bits = bytes_of bits
