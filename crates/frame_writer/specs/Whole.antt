-- Bits of whole bytes.
use Rattle.std.specs.Prelude.{◌≡◌, ◌≤◌, ℕ, ◌*◌, Bool, List, length}
use Rattle.t2mi_packet.specs.declared.reading.TheConstants.{LARGEST}

-- Bits are whole bytes, no more than the longest packet has.
pub record IsWhole (bits : List Bool) : Type 0 where
  pub bytes : ℕ
  pub len : length bits ≡ 8 * bytes
  pub room : bytes ≤ LARGEST
