-- Baseband frames in high-efficiency mode (EN 302 755, clause 5.1.7): how a frame is spelled, and why bits are none.
use Rattle.std.specs.Prelude.{◌≡◌, ◌⊎◌, ℕ, ◌+◌, ◌-◌, ◌/◌, ◌%◌, ◌<◌, ◌≤◌, ◌^◌, List, Bool, false, ◌++◌, length}
use Rattle.std.specs.Prelude.{replicate, bit_xor}
use Rattle.terms.specs.Bits.{field, part, number_at}
use Rattle.bit_slice.specs.Crc.{crc8_of}
use Rattle.bb_frame.specs.declared.header.Header.{Header}
use Rattle.bb_frame.specs.declared.header.TheConstants.{HEADER_BITS, NO_START}
use Rattle.bb_frame.specs.declared.fault.BbFault.{BbFault}
use Rattle.bb_frame.specs.declared.fault.BbFault.TheVariants.{Crc, Mode, Length, Sync}

-- the header but for its last byte: MATYPE-1, MATYPE-2, the two upper bytes of ISSY, DFL, the lowest byte of ISSY,
-- SYNCD
abbrev pub fields_bits : Header → List Bool
fields_bits h = field 8 h.matype1 ++ field 8 h.matype2 ++ field 16 (h.issy / 2 ^ 8) ++ field 16 h.dfl ++ field 8 h.issy
    ++ field 16 h.syncd

-- MODE, which is added to the CRC-8: 1 is the high-efficiency mode
abbrev pub mode : ℕ
mode = 1

-- the header, with CRC-8 XOR MODE as its last byte
abbrev pub header_bits : Header → List Bool
header_bits h = fields_bits h ++ field 8 (bit_xor (crc8_of (fields_bits h)) mode)

-- the frame of so many bits: header, data field, and zeros
abbrev pub frame_bits : Header → List Bool → ℕ → List Bool
frame_bits h body size = header_bits h ++ body ++ replicate (size - HEADER_BITS - length body) false

-- Each field fits its width.
pub record Fits (h : Header) : Type 0 where
  pub matype1 : h.matype1 < 2 ^ 8
  pub matype2 : h.matype2 < 2 ^ 8
  pub issy : h.issy < 2 ^ 24
  pub dfl : h.dfl < 2 ^ 16
  pub syncd : h.syncd < 2 ^ 16

-- SYNCD is a place of a byte in the data field, or says that no user packet begins there.
abbrev pub IsPlace : ℕ → ℕ → Type 0
IsPlace syncd dfl = (syncd ≡ NO_START) ⊎ ((syncd % 8 ≡ 0) × (syncd < dfl))

-- The header goes with the data field.
pub record Describes (h : Header) (body : List Bool) : Type 0 where
  pub len : h.dfl ≡ length body
  pub bytes : h.dfl % 8 ≡ 0
  pub sync : IsPlace h.syncd h.dfl

-- The bits are the frame, whatever its padding holds (clause 5.2.2).
pub record Spells (h : Header) (body bits : List Bool) : Type 0 where
  pub fits : Fits h
  pub describes : Describes h body
  pub padding : List Bool
  pub spelled : bits ≡ header_bits h ++ body ++ padding

-- the last byte of the header, and the CRC-8 of those before it
abbrev pub told_crc : List Bool → ℕ
told_crc bits = number_at bits 72 8

abbrev pub counted_crc : List Bool → ℕ
counted_crc bits = crc8_of (part bits 0 72)

-- the fields that refusals look at
abbrev pub told_dfl : List Bool → ℕ
told_dfl bits = number_at bits 32 16

abbrev pub told_syncd : List Bool → ℕ
told_syncd bits = number_at bits 56 16

-- MODE is 0.
abbrev pub IsNormalMode : List Bool → Type 0
IsNormalMode bits = told_crc bits ≡ counted_crc bits

-- The CRC-8 is right, and MODE is 1.
abbrev pub HasCrc : List Bool → Type 0
HasCrc bits = told_crc bits ≡ bit_xor (counted_crc bits) mode

-- DFL is a whole number of bytes, and so many stand behind the header.
abbrev pub HasLength : List Bool → Type 0
HasLength bits = (told_dfl bits % 8 ≡ 0) × (HEADER_BITS + told_dfl bits ≤ length bits)

-- SYNCD goes with DFL.
abbrev pub HasSync : List Bool → Type 0
HasSync bits = IsPlace (told_syncd bits) (told_dfl bits)

-- The first refusal of bits that are no frame, in the order Mode, Crc, Length, Sync.
abbrev pub Refuses : List Bool → BbFault → Type 0
Refuses bits Mode = IsNormalMode bits
Refuses bits Crc = (¬ (IsNormalMode bits)) × (¬ (HasCrc bits))
Refuses bits Length = HasCrc bits × (¬ (HasLength bits))
Refuses bits Sync = HasCrc bits × HasLength bits × (¬ (HasSync bits))
