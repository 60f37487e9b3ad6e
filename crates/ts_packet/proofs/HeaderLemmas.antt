-- Fields of a header that is a number of 32 bits.
use Rattle.std.proofs.Common.{◌≡◌, ℕ, ◌+◌, ◌-◌, ◌*◌, ◌/◌, ◌%◌, ◌^◌, ◌<◌, ◌≤◌, List, Bool, [], ◌∷◌, length, take, get_or}
use Rattle.std.proofs.Common.{refl, ap}
use Rattle.std.proofs.Common.{sym, ◌∙◌, arith}
use Rattle.std.specs.Prelude.{bit_and}
use Rattle.std.proofs.lemmas.Nat.{and_mask, one_shl}
use Rattle.terms.specs.Bits.{field, bits_of, number_of, part, number_at}
use Rattle.terms.proofs.BitLemmas.{length-field, length-bits_of, length-part, part-part, number_of-field}
use Rattle.terms.proofs.BitLemmas.{number_of-part}
use Rattle.terms.proofs.BitLemmas.{field-number_of, part-bits_of, four_bytes}

-- how the code reads a field
pub field_read : (header at width : ℕ) → header < 2 ^ 32 → width < 32 → at + width ≤ 32 →
    bit_and (header / 2 ^ (32 - at - width)) (1 * 2 ^ width % 2 ^ 32 - 1) ≡ number_at (field 32 header) at width
field_read header at width small narrow inside =
    let behind : 32 - at - width ≡ 32 - (at + width) = omega arith in
    let spelled = number_of-part (field 32 header) at width (omega (arith, length-field 32 header)) in
    rw (one_shl width 32 narrow, and_mask, behind) (rw (length-field 32 header, number_of-field 32 header small)
    at (sym spelled))

-- the first four bytes
front_four : (bytes : List ℕ) → 4 ≤ length bytes → take 4 bytes ≡ get_or bytes 0 0 ∷ get_or bytes 1 0 ∷ get_or bytes 2 0
    ∷ get_or bytes 3 0 ∷ []
front_four [] h = absurd (omega arith)
front_four (a ∷ []) h = absurd (omega arith)
front_four (a ∷ b ∷ []) h = absurd (omega arith)
front_four (a ∷ b ∷ c ∷ []) h = absurd (omega arith)
front_four (a ∷ b ∷ c ∷ d ∷ bytes) h = refl

-- The header has the first 32 bits.
pub header_read : (bytes : List ℕ) (header : ℕ) → 4 ≤ length bytes → ((k : ℕ) → get_or bytes k 0 < 256) →
    header ≡ get_or bytes 0 0 * 2 ^ 24 + get_or bytes 1 0 * 2 ^ 16 + get_or bytes 2 0 * 2 ^ 8 + get_or bytes 3 0
    → field 32 header ≡ part (bits_of bytes) 0 32
header_read bytes header long small e =
    let front : part (bits_of bytes) 0 32 ≡ bits_of (take 4 bytes) = part-bits_of bytes 0 4 (omega arith) in
    let size : length (bits_of (take 4 bytes)) ≡ 32 =
    rw (← front) (length-part (bits_of bytes) 0 32 (omega (arith, length-bits_of bytes))) in
    let number : header ≡ number_of (bits_of (take 4 bytes)) =
    e ∙ sym (ap (λ (bs : List ℕ). number_of (bits_of bs)) (front_four bytes long)
    ∙ four_bytes (get_or bytes 0 0) (get_or bytes 1 0) (get_or bytes 2 0) (get_or bytes 3 0) (small 0)
    (small 1) (small 2)
    (small 3)) in
    ap (field 32) number ∙ ap (λ (k : ℕ). field k (number_of (bits_of (take 4 bytes)))) (sym size)
    ∙ field-number_of (bits_of (take 4 bytes)) ∙ sym front

-- A field of the first 32 bits is a field of all.
pub front_number : (bits : List Bool) (at width : ℕ) → at + width ≤ 32 → number_at (part bits 0 32) at width
    ≡ number_at bits at width
front_number bits at width inside =
    ap number_of (part-part bits 0 32 at width inside ∙ ap (λ (k : ℕ). part bits k width) (omega arith))

-- A field of the header is a field of the packet.
pub header_number : (bytes : List ℕ) (header at width : ℕ) → field 32 header ≡ part (bits_of bytes) 0 32
    → at + width ≤ 32 →
    number_at (field 32 header) at width ≡ number_at (bits_of bytes) at width
header_number bytes header at width e inside = ap (λ (bits : List Bool). number_at bits at width) e
    ∙ front_number (bits_of bytes) at width inside
