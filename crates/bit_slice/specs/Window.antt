-- The sums that stand for the register of CRC-32. No public clause cites this module.
use Rattle.std.specs.Prelude.{ℕ, ◌+◌, ◌<◌, ◌≡◌, List, length, take, get_or, bit_xor}
use Rattle.terms.specs.Bits.{bits_of}
use Rattle.bit_slice.specs.Register.{register}

-- the register after bytes, from zero on
unfoldable pub front_register : ℕ → List ℕ → ℕ
front_register count bytes = register 32 0x04C1_1DB7 0 (bits_of (take count bytes))

-- the register for which 300 sums stand
unfoldable pub window_register : List ℕ → ℕ
window_register sums =
    bit_xor (bit_xor (bit_xor (front_register 89 sums) (front_register 117 sums)) (front_register 155 sums))
    (front_register 300 sums)

-- the sum of a byte with those that come to it from 300, 211, 183 and 145 places before
abbrev pub sum_at : List ℕ → List ℕ → ℕ → ℕ
sum_at sums bytes k =
    bit_xor (get_or bytes k 0)
    (bit_xor (bit_xor (bit_xor (get_or sums k 0) (get_or sums (k + 89) 0)) (get_or sums (k + 117) 0))
    (get_or sums (k + 155) 0))

-- more is the sums of bytes behind these sums
pub record AreSums (sums bytes more : List ℕ) : Type 0 where
  pub len : length more ≡ length bytes
  pub each : (k : ℕ) → k < length bytes → get_or more k 0 ≡ sum_at sums bytes k
