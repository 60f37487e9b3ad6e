-- Bytes that wait for a block. No public clause cites this module.
use Rattle.std.specs.Prelude.{ℕ, ◌-◌, List, ◌++◌, length, take, replicate}

-- the bytes that wait, and for how many there is room
pub record Held : Type 0 where
  pub items : List ℕ
  pub room : ℕ

-- the bytes of a block: the header, and the first of those that wait in a data field of so many bytes, zeros behind the
-- last one
abbrev pub block_of : List ℕ → List ℕ → ℕ → List ℕ
block_of header items size = header ++ take size (items ++ replicate (size - length items) 0)
