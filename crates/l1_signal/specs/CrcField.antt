-- CRC_32 behind what it is counted of.
use Rattle.std.specs.Prelude.{◌≡◌, ◌≢◌, ◌≤◌, ◌<◌, ℕ, ◌-◌, ◌==◌, Bool, nat_lt, List, length, take, drop, if◌then◌else◌}
use Rattle.std.specs.Prelude.{Ok, Err}
use Rattle.terms.specs.Bits.{number_of, number_at}
use Rattle.bit_slice.specs.Crc.{crc32_of}
use Rattle.l1_signal.specs.declared.fault.L1Fault.{L1Fault}
use Rattle.l1_signal.specs.declared.fault.L1Fault.TheVariants.{Short, Crc}
use Rattle.l1_signal.specs.Fields.{Reading}

-- the 32 bits at the front are this number
unfoldable pub crc_read : ℕ → List Bool → Reading ℕ
crc_read counted bits =
    if nat_lt (length bits) 32 then Err (Short (length bits))
    else if number_of (take 32 bits) == counted then Ok (counted, drop 32 bits)
    else Err (Crc (number_of (take 32 bits)) counted)

-- L1-post: what CRC_32 is counted of, what it tells, and what is counted
abbrev pub post_front : List Bool → List Bool
post_front post = take (length post - 32) post

abbrev pub told_crc : List Bool → ℕ
told_crc post = number_at post (length post - 32) 32

-- L1-post ends with the CRC_32 of what stands before it (EN 302 755, clause 7.2.3.5).
abbrev pub EndsInCrc : List Bool → Type 0
EndsInCrc post = (32 ≤ length post) × (told_crc post ≡ crc32_of (post_front post))

-- why it does not
abbrev pub RefusesPost : List Bool → L1Fault → Type 0
RefusesPost post (Short left) = (length post < 32) × (left ≡ length post)
RefusesPost post (Crc read counted) = (32 ≤ length post) × (read ≡ told_crc post)
    × (counted ≡ crc32_of (post_front post))
    × (read ≢ counted)
RefusesPost post _ = ⊥
