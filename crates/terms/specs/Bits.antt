-- Bits, the most significant first, as every field of EN 302 755, TS 102 773 and ISO/IEC 13818-1 is sent.
use Rattle.std.specs.Prelude.{ℕ, zero, suc, ◌+◌, ◌-◌, ◌*◌, ◌/◌, ◌^◌, ◌==◌, Bool, List, [], ◌∷◌, length, take, drop, map}
use Rattle.std.specs.Prelude.{if◌then◌else◌}
use Rattle.std.specs.Int.{bit_at}
use Rattle.std.specs.List.{flat_map, range_with_len}

-- the field of a width that holds a number: its lowest bits
unfoldable pub field : ℕ → ℕ → List Bool
field zero n = []
field (suc width) n = (bit_at n width == 1) ∷ field width n

-- the bits of bytes
abbrev pub bits_of : List ℕ → List Bool
bits_of bytes = flat_map (field 8) bytes

-- the number that bits spell
abbrev pub number_of : List Bool → ℕ
number_of [] = 0
number_of (b ∷ bits) = (if b then 2 ^ length bits else 0) + number_of bits

-- the bits of a field, by its place and width
abbrev pub part : List Bool → ℕ → ℕ → List Bool
part bits at width = take width (drop at bits)

-- the number that a field spells, by its place and width
abbrev pub number_at : List Bool → ℕ → ℕ → ℕ
number_at bits at width = number_of (part bits at width)

-- byte k of bits, a last part of a byte filled with zero bits
abbrev pub byte_at : List Bool → ℕ → ℕ
byte_at bits k = number_at bits (8 * k) 8 * 2 ^ (8 - length (drop (8 * k) bits))

-- how many bytes bits fill
abbrev pub bytes_for : ℕ → ℕ
bytes_for bits = (bits + 7) / 8

-- the bytes that bits fill
abbrev pub bytes_of : List Bool → List ℕ
bytes_of bits = map (byte_at bits) (range_with_len 0 (bytes_for (length bits)))
