-- How bits are read from bytes.
use Rattle.std.proofs.Common.{◌≡◌, ℕ, ◌+◌, ◌-◌, ◌*◌, ◌/◌, ◌%◌, ◌^◌, ◌<◌, ◌≤◌, ◌==◌, Bool, false, List, [], ◌∷◌, ◌++◌}
use Rattle.std.proofs.Common.{length}
use Rattle.std.proofs.Common.{take, drop, get_or, refl, ap, sym, ◌∙◌, arith}
use Rattle.std.specs.Prelude.{bit_and, bit_or}
use Rattle.std.proofs.lemmas.List.{append-nil, take_all, take-take, length-take-le, take_more}
use Rattle.std.proofs.lemmas.Nat.{or_shifted, and_mask, one_shl}
use Rattle.std.proofs.lemmas.Nat.Bits.{shr_and_one}
use Rattle.std.proofs.Math.Nat.{pow-le-pow_right}
use Rattle.terms.specs.Bits.{field, bits_of, number_of, number_at, part}
use Rattle.terms.proofs.BitLemmas.{length-bits_of, length-part, part-part, part-bits_of, number_of-part, bits_of-append}
use Rattle.terms.proofs.BitLemmas.{length-field, number_of-append, number_of-field, get_or-bits_of, number_of-lt}

-- how many bits a slice has
pub seen_length : (bytes : List ℕ) (first len : ℕ) (bits : List Bool) → take len (drop first (bits_of bytes)) ≡ bits
    → first + len ≤ 8 * length bytes → length bits ≡ len
seen_length bytes first len bits seen within = ap length (sym seen)
    ∙ length-part (bits_of bytes) first len (omega (arith, length-bits_of bytes))

-- the whole bytes at the front of bits that begin at a byte
pub front_bytes : (bytes : List ℕ) (first len count to : ℕ) (bits : List Bool)
    → take len (drop first (bits_of bytes)) ≡ bits
    → first + len ≤ 8 * length bytes →
    first % 8 ≡ 0 → 8 * count ≤ len → to ≡ first / 8 + count → take (8 * count) bits
    ≡ bits_of (take (to - first / 8) (drop (first / 8) bytes))
front_bytes bytes first len count to bits seen within aligned few e =
    let place : first ≡ 8 * (first / 8) = omega arith in
    let size : count ≡ to - first / 8 = omega arith in
    ap (take (8 * count)) (sym seen) ∙ take-take (8 * count) len (drop first (bits_of bytes)) few
    ∙ ap (λ (k : ℕ). take (8 * count) (drop k (bits_of bytes))) place
    ∙ part-bits_of bytes (first / 8) count (omega arith)
    ∙ ap (λ (k : ℕ). bits_of (take k (drop (first / 8) bytes))) size

-- borrowed bytes have the bits, if these begin at a byte and fill them
pub bits_of_borrowed : (bytes out : List ℕ) (first len : ℕ) (bits : List Bool)
    → take len (drop first (bits_of bytes)) ≡ bits
    → first + len ≤ 8 * length bytes →
    first % 8 ≡ 0 → length bits ≡ 8 * length out → (to : ℕ) → to ≡ first / 8 + length out
    → out ≡ take (to - first / 8) (drop (first / 8) bytes) → bits_of out ≡ bits
bits_of_borrowed bytes out first len bits seen within aligned size to e same =
    let all : length bits ≡ len = seen_length bytes first len bits seen within in
    ap bits_of same ∙ sym (front_bytes bytes first len (length out) to bits seen within aligned (omega arith) e)
    ∙ take_all (8 * length out) bits (omega arith)

-- how the code reads a bit
pub bit_read : (bytes : List ℕ) (place : ℕ) → place < 8 * length bytes
    → (bit_and (get_or bytes (place / 8) 0 / 2 ^ (7 - place % 8)) 1 == 1) ≡ get_or (bits_of bytes) place false
bit_read bytes place h = grind (arith, shr_and_one, get_or-bits_of)

-- one more byte behind a number
pub number_more : (bytes : List ℕ) (i number : ℕ) → i < length bytes → i < 16 → get_or bytes i 0 < 256
    → number ≡ number_of (bits_of (take i bytes)) →
    bit_or (number * 2 ^ 8 % 2 ^ 128) (get_or bytes i 0) ≡ number_of (bits_of (take (i + 1) bytes))
number_more bytes i number h short small e =
    let byte : ℕ = get_or bytes i 0 in
    let size : length (bits_of (take i bytes)) ≡ 8 * i = length-bits_of (take i bytes)
    ∙ ap (λ (k : ℕ). 8 * k) (length-take-le i bytes (omega arith)) in
    let bound : number < 2 ^ (8 * i) = rw e (rw size at (number_of-lt (bits_of (take i bytes)))) in
    let two : 0 < 2 = omega arith in
    let most : 8 * i ≤ 120 = omega arith in
    let low : 2 ^ (8 * i) ≤ 2 ^ 120 = pow-le-pow_right two most in
    let fits : number * 2 ^ 8 % 2 ^ 128 ≡ number * 2 ^ 8 = omega arith in
    let joined : bits_of (take (i + 1) bytes) ≡ bits_of (take i bytes) ++ field 8 byte =
    ap bits_of (take_more bytes i 0 h) ∙ bits_of-append (take i bytes) (byte ∷ [])
    ∙ ap (λ (bs : List Bool). bits_of (take i bytes) ++ bs) (append-nil (field 8 byte)) in
    rw (fits, joined) (or_shifted number 8 byte small
    ∙ ap (λ (n : ℕ). n * 2 ^ 8 + byte) e
    ∙ sym (number_of-append (bits_of (take i bytes)) (field 8 byte)
    ∙ rw (length-field 8 byte, number_of-field 8 byte small) refl))

-- The field in the number of the bytes that it touches: the bits behind it are shifted out, and those before it masked
-- out.
pub field_read : (bytes : List ℕ) (start width last : ℕ) → start + width ≤ 8 * length bytes → start + width ≤ 8 * last
    → 8 * last < start + width + 8 → width < 128 →
    bit_and (number_of (bits_of (take (last - start / 8) (drop (start / 8) bytes))) / 2 ^ (8 * last - (start + width)))
    (1 * 2 ^ width % 2 ^ 128 - 1)
    ≡ number_at (bits_of bytes) start width
field_read bytes start width last h above below narrow =
    let from : ℕ = start / 8 in
    let count : ℕ = last - from in
    let within : from + count ≤ length bytes = omega arith in
    let place : 8 * from + start % 8 ≡ start = omega arith in
    let inside : start % 8 + width ≤ 8 * count = omega arith in
    let behind : 8 * count - (start % 8 + width) ≡ 8 * last - (start + width) = omega arith in
    let piece : part (bits_of bytes) (8 * from) (8 * count) ≡ bits_of (take count (drop from bytes)) =
    part-bits_of bytes from count within in
    let size : length (bits_of (take count (drop from bytes))) ≡ 8 * count =
    rw piece at (length-part (bits_of bytes) (8 * from) (8 * count) (omega (arith, length-bits_of bytes))) in
    let touched : part (bits_of (take count (drop from bytes))) (start % 8) width ≡ part (bits_of bytes) start width =
    ap (λ (bs : List Bool). part bs (start % 8) width) (sym piece) ∙ part-part (bits_of bytes) (8 * from) (8 * count)
    (start % 8) width inside
    ∙ ap (λ (k : ℕ). part (bits_of bytes) k width) place in
    let spelled = number_of-part (bits_of (take count (drop from bytes))) (start % 8) width (omega (arith, size)) in
    rw (one_shl width 128 narrow, and_mask) (rw (size, behind, touched) at (sym spelled))
