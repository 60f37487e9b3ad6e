-- Cyclic redundancy checks: remainders of polynomials over two elements.
--
-- A polynomial is the number that its coefficients spell, the highest first: the sum of two is `bit_xor`, and the
-- product with X^n is the product with 2^n.
use Rattle.std.specs.Prelude.{◌≡◌, ℕ, zero, suc, ◌+◌, ◌*◌, ◌<◌, ◌≤◌, ◌^◌, ◌-◌, ◌==◌, Bool, List, [], ◌∷◌, length}
use Rattle.std.specs.Prelude.{if◌then◌else◌}
use Rattle.std.specs.Prelude.{bit_xor}
use Rattle.std.specs.Int.{bit_at}
use Rattle.terms.specs.Bits.{number_of}

-- the product of two, by the coefficients of the first
abbrev pub product : List Bool → ℕ → ℕ
product [] g = 0
product (b ∷ bs) g = bit_xor (if b then g * 2 ^ length bs else 0) (product bs g)

-- the highest term of p is X^degree
abbrev pub HasDegree : ℕ → ℕ → Type 0
HasDegree p degree = (2 ^ degree ≤ p) × (p < 2 ^ (degree + 1))

-- r is the remainder of p by g, a polynomial of this degree
abbrev pub IsRemainder : ℕ → ℕ → ℕ → ℕ → Type 0
IsRemainder degree p g r = (r < 2 ^ degree) × ((quotient : List Bool) × (p ≡ bit_xor (product quotient g) r))

-- the remainder by long division of a polynomial with n coefficients from X^degree on
abbrev pub remainder : ℕ → ℕ → ℕ → ℕ → ℕ
remainder degree g zero p = p
remainder degree g (suc n) p = remainder degree g n (if bit_at p (n + degree) == 1 then bit_xor p (g * 2 ^ n) else p)

-- w * X^degree + first * X^(length w): the bits with room for the check value behind them, and a polynomial added at
-- the front
abbrev pub dividend : ℕ → ℕ → List Bool → ℕ
dividend degree first w = bit_xor (number_of w * 2 ^ degree) (first * 2 ^ length w)

-- the check value of bits, by a generator of this degree
abbrev pub crc_of : ℕ → ℕ → ℕ → List Bool → ℕ
crc_of degree g first w = remainder degree g (length w) (dividend degree first w)

-- X^(n - 1) + .. + X + 1
abbrev pub ones : ℕ → ℕ
ones n = 2 ^ n - 1

-- X^32 + X^26 + X^23 + X^22 + X^16 + X^12 + X^11 + X^10 + X^8 + X^7 + X^5 + X^4 + X^2 + X + 1
abbrev pub crc32_generator : ℕ
crc32_generator = 0x1_04C1_1DB7

-- the CRC-32 of bits (ISO/IEC 13818-1, annex A; EN 302 755, annex F; TS 102 773, annex A)
unfoldable pub crc32_of : List Bool → ℕ
crc32_of w = crc_of 32 crc32_generator (ones 32) w

-- X^8 + X^7 + X^6 + X^4 + X^2 + 1
abbrev pub crc8_generator : ℕ
crc8_generator = 0x1D5

-- the CRC-8 of bits (EN 302 755, annex F)
unfoldable pub crc8_of : List Bool → ℕ
crc8_of w = crc_of 8 crc8_generator 0 w
