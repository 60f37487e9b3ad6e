-- Where the parts of a frame stand, and how it is put together from them.
use Rattle.std.proofs.Common.{◌≡◌, ℕ, ◌+◌, ◌/◌, ◌%◌, ◌^◌, ◌<◌, ◌≤◌, Bool, List, [], ◌++◌, length, take, drop, refl, ap}
use Rattle.std.proofs.Common.{sym, ◌∙◌}
use Rattle.std.proofs.Common.{arith, append_assoc, length-append}
use Rattle.std.specs.Prelude.{bit_xor}
use Rattle.std.proofs.lemmas.List.{take_at, take-append-drop}
use Rattle.std.proofs.lemmas.Nat.{xor_lt}
use Rattle.terms.specs.Bits.{field, number_of, part, number_at}
use Rattle.terms.proofs.BitLemmas.{length-field, length-part, field-number_at, field-high, number_of-field-mod}
use Rattle.terms.proofs.BitLemmas.{number_at-lt}
use Rattle.terms.proofs.PartLemmas.{part-add, part-middle, number-middle}
use Rattle.bit_slice.specs.Crc.{crc8_of}
use Rattle.bb_frame.specs.declared.header.Header.{Header}
use Rattle.bb_frame.specs.BasebandFrame.{fields_bits, mode, header_bits, Fits, Spells, told_crc}
use Rattle.bb_frame.specs.Reading.{HasFields, IsRead}

-- what a CRC-8 can be
abbrev pub Bounded : Type 0
Bounded = (w : List Bool) → crc8_of w < 2 ^ 8

pub length-fields : (h : Header) → length (fields_bits h) ≡ 72
length-fields h = simp (length-append, length-field) refl

pub length-header : (h : Header) → length (header_bits h) ≡ 80
length-header h = simp (length-append, length-field) refl

-- The numbers of the fields are those of the header.
fields_read : (h : Header) (tail : List Bool) → Fits h →
    (number_at (fields_bits h ++ tail) 0 8 ≡ h.matype1) × (number_at (fields_bits h ++ tail) 8 8 ≡ h.matype2)
    × (number_at (fields_bits h ++ tail) 16 16 ≡ h.issy / 2 ^ 8) × (number_at (fields_bits h ++ tail) 32 16 ≡ h.dfl)
    × (number_at (fields_bits h ++ tail) 48 8 ≡ h.issy % 2 ^ 8) × (number_at (fields_bits h ++ tail) 56 16 ≡ h.syncd)
fields_read h tail fit =
    let a : List Bool = field 8 h.matype1 in
    let b : List Bool = field 8 h.matype2 in
    let c : List Bool = field 16 (h.issy / 2 ^ 8) in
    let d : List Bool = field 16 h.dfl in
    let e : List Bool = field 8 h.issy in
    let f : List Bool = field 16 h.syncd in
    let at_a : fields_bits h ++ tail ≡ ([] ++ a) ++ (b ++ (c ++ (d ++ (e ++ (f ++ tail))))) = simp append_assoc in
    let at_b : fields_bits h ++ tail ≡ (a ++ b) ++ (c ++ (d ++ (e ++ (f ++ tail)))) = simp append_assoc in
    let at_c : fields_bits h ++ tail ≡ ((a ++ b) ++ c) ++ (d ++ (e ++ (f ++ tail))) = simp append_assoc in
    let at_d : fields_bits h ++ tail ≡ ((a ++ b ++ c) ++ d) ++ (e ++ (f ++ tail)) = simp append_assoc in
    let at_e : fields_bits h ++ tail ≡ ((a ++ b ++ c ++ d) ++ e) ++ (f ++ tail) = simp append_assoc in
    let at_f : fields_bits h ++ tail ≡ ((a ++ b ++ c ++ d ++ e) ++ f) ++ tail = simp append_assoc in
    let two : length (a ++ b) ≡ 16 = simp (length-append, length-field) refl in
    let four : length (a ++ b ++ c) ≡ 32 = simp (length-append, length-field) refl in
    let six : length (a ++ b ++ c ++ d) ≡ 48 = simp (length-append, length-field) refl in
    let seven : length (a ++ b ++ c ++ d ++ e) ≡ 56 = simp (length-append, length-field) refl in
    let high : h.issy / 2 ^ 8 < 2 ^ 16 = let small = fit.issy in omega arith in (
      ap (λ (bits : List Bool). number_at bits 0 8) at_a ∙ number-middle [] _ 0 8 h.matype1 refl fit.matype1,
      ap (λ (bits : List Bool). number_at bits 8 8) at_b ∙ number-middle a _ 8 8 h.matype2 (length-field 8 h.matype1)
          fit.matype2,
      ap (λ (bits : List Bool). number_at bits 16 16) at_c ∙ number-middle (a ++ b) _ 16 16 (h.issy / 2 ^ 8) two high,
      ap (λ (bits : List Bool). number_at bits 32 16) at_d ∙ number-middle (a ++ b ++ c) _ 32 16 h.dfl four fit.dfl,
      ap (λ (bits : List Bool). number_at bits 48 8) at_e
          ∙ ap number_of (part-middle (a ++ b ++ c ++ d) e (f ++ tail) 48 8 six (length-field 8 h.issy))
          ∙ number_of-field-mod 8 h.issy,
      ap (λ (bits : List Bool). number_at bits 56 16) at_f
          ∙ number-middle (a ++ b ++ c ++ d ++ e) _ 56 16 h.syncd seven fit.syncd,
    )

-- A frame is read as it is spelled.
pub placed : Bounded → (h : Header) (body bits : List Bool) → Spells h body bits → IsRead bits h body
placed bounded h body bits s =
    let crc : ℕ = bit_xor (crc8_of (fields_bits h)) mode in
    let tail : List Bool = field 8 crc ++ (body ++ s.padding) in
    let whole : bits ≡ fields_bits h ++ tail = s.spelled ∙ simp append_assoc in
    let behind : bits ≡ (header_bits h ++ body) ++ s.padding = s.spelled in
    let ends : fields_bits h ++ tail ≡ (fields_bits h ++ field 8 crc) ++ (body ++ s.padding) =
    sym (append_assoc (fields_bits h) (field 8 crc) (body ++ s.padding)) in
    let size : length bits ≡ 80 + length body + length s.padding =
    ap length behind ∙ omega (
      arith,
      length-append (header_bits h ++ body) s.padding,
      length-append (header_bits h) body,
      length-header h,
    ) in
    let read = fields_read h tail s.fits in
    let one : mode < 2 ^ 8 = omega arith in
    let small : crc < 2 ^ 8 = xor_lt 8 (crc8_of (fields_bits h)) mode (bounded (fields_bits h)) one in
    let told : told_crc bits ≡ crc = ap (λ (xs : List Bool). number_at xs 72 8) (whole ∙ ends)
    ∙ number-middle (fields_bits h) (body ++ s.padding) 72 8 crc (length-fields h) small in
    let front : part bits 0 72 ≡ fields_bits h = ap (take 72) whole ∙ take_at (fields_bits h) tail 72
    (length-fields h) in
    let dfl : number_at bits 32 16 ≡ h.dfl = ap (λ (xs : List Bool). number_at xs 32 16) whole ∙ read.3 in
    let syncd : number_at bits 56 16 ≡ h.syncd = ap (λ (xs : List Bool). number_at xs 56 16) whole ∙ read.5 in
    let upper : number_at bits 16 16 ≡ h.issy / 2 ^ 8 = ap (λ (xs : List Bool). number_at xs 16 16) whole ∙ read.2 in
    let lower : number_at bits 48 8 ≡ h.issy % 2 ^ 8 = ap (λ (xs : List Bool). number_at xs 48 8) whole ∙ read.4 in
    let d = s.describes in
    let eight = d.bytes in
    record {
      crc = told ∙ ap (λ (xs : List Bool). bit_xor (crc8_of xs) mode) (sym front);
      len = (rw dfl eight, omega (arith, dfl, size, d.len));
      sync = rw (dfl, syncd) d.sync;
      fields = record {
        matype1 = sym (ap (λ (xs : List Bool). number_at xs 0 8) whole ∙ read.0);
        matype2 = sym (ap (λ (xs : List Bool). number_at xs 8 8) whole ∙ read.1);
        issy = omega (arith, upper, lower);
        dfl = sym dfl;
        syncd = sym syncd;
      };
      taken = sym (ap (λ (xs : List Bool). part xs 80 h.dfl) behind ∙ part-middle (header_bits h) body
          s.padding 80 h.dfl
          (length-header h) (sym d.len));
    }

-- ---- the other way
-- a number that was read off is as narrow as its field
narrow : (xs : List Bool) (at width n : ℕ) → n ≡ number_at xs at width → at + width ≤ length xs → n < 2 ^ width
narrow xs at width n e h = rw e (number_at-lt xs at width h)

-- the field of a number that was read off is what stands there
restored : (xs : List Bool) (at width n : ℕ) → n ≡ number_at xs at width → at + width ≤ length xs
    → part xs at width ≡ field width n
restored xs at width n e h = sym (field-number_at xs at width h) ∙ ap (field width) (sym e)

fields_parts : (xs : List Bool) → part xs 0 72 ≡ part xs 0 8 ++ part xs 8 8 ++ part xs 16 16 ++ part xs 32 16
    ++ part xs 48 8
    ++ part xs 56 16
fields_parts xs =
    part-add xs 0 56 16
    ∙ ap (λ (front : List Bool). front ++ part xs 56 16) (part-add xs 0 48 8
    ∙ ap (λ (front : List Bool). front ++ part xs 48 8) (part-add xs 0 32 16
    ∙ ap (λ (front : List Bool). front ++ part xs 32 16) (part-add xs 0 16 16
    ∙ ap (λ (front : List Bool). front ++ part xs 16 16) (part-add xs 0 8 8))))

fits_read : (bits : List Bool) (h : Header) → 80 ≤ length bits → HasFields bits h → Fits h
fits_read bits h long r =
    let upper : number_at bits 16 16 < 2 ^ 16 = narrow bits 16 16 (number_at bits 16 16) refl (omega arith) in
    let lower : number_at bits 48 8 < 2 ^ 8 = narrow bits 48 8 (number_at bits 48 8) refl (omega arith) in
    let issy = r.issy in
    record {
      matype1 = narrow bits 0 8 h.matype1 r.matype1 (omega arith);
      matype2 = narrow bits 8 8 h.matype2 r.matype2 (omega arith);
      issy = omega arith;
      dfl = narrow bits 32 16 h.dfl r.dfl (omega arith);
      syncd = narrow bits 56 16 h.syncd r.syncd (omega arith);
    }

fields_are : (bits : List Bool) (h : Header) → 80 ≤ length bits → HasFields bits h → part bits 0 72 ≡ fields_bits h
fields_are bits h long r =
    let lower : number_at bits 48 8 < 2 ^ 8 = narrow bits 48 8 (number_at bits 48 8) refl (omega arith) in
    let issy = r.issy in
    let upper_is : h.issy / 2 ^ 8 ≡ number_at bits 16 16 = omega arith in
    let same : 8 ≤ 8 = omega arith in
    let lower_is : field 8 h.issy ≡ field 8 (number_at bits 48 8) =
    ap (field 8) issy ∙ field-high 8 (number_at bits 16 16) (number_at bits 48 8) 8 same in
    let a = restored bits 0 8 h.matype1 r.matype1 (omega arith) in
    let b = restored bits 8 8 h.matype2 r.matype2 (omega arith) in
    let c = restored bits 16 16 (h.issy / 2 ^ 8) upper_is (omega arith) in
    let d = restored bits 32 16 h.dfl r.dfl (omega arith) in
    let e : part bits 48 8 ≡ field 8 h.issy = restored bits 48 8 (number_at bits 48 8) refl (omega arith)
    ∙ sym lower_is in
    let f = restored bits 56 16 h.syncd r.syncd (omega arith) in
    fields_parts bits ∙ rw (a, b, c, d, e, f) refl

-- What was read off is spelled by the bits.
pub spelled : (bits : List Bool) (h : Header) (body : List Bool) → 80 ≤ length bits → IsRead bits h body
    → Spells h body bits
spelled bits h body long r =
    let fields = fields_are bits h long r.fields in
    let crc : part bits 72 8 ≡ field 8 (bit_xor (crc8_of (fields_bits h)) mode) =
    restored bits 72 8 _ (sym (r.crc ∙ ap (λ (xs : List Bool). bit_xor (crc8_of xs) mode) fields)) (omega arith) in
    let header : part bits 0 80 ≡ header_bits h = part-add bits 0 72 8 ∙ rw (fields, crc) refl in
    let dfl = r.fields.dfl in
    let syncd = r.fields.syncd in
    let len = r.len in
    let taken : part bits 80 h.dfl ≡ body = sym r.taken in
    let rest : List Bool = drop h.dfl (drop 80 bits) in
    record {
      fits = fits_read bits h long r.fields;
      describes = record {
        len = sym (ap length r.taken ∙ length-part bits 80 h.dfl (omega (arith, dfl, len.1)));
        bytes = rw dfl len.0;
        sync = rw (dfl, syncd) r.sync;
      };
      padding = rest;
      spelled = sym (take-append-drop 80 bits) ∙ ap (λ (front : List Bool). front ++ drop 80 bits) header
          ∙ ap (λ (behind : List Bool). header_bits h ++ behind) (sym (take-append-drop h.dfl (drop 80 bits))
          ∙ ap (λ (front : List Bool). front ++ rest) taken)
          ∙ sym (append_assoc (header_bits h) body rest);
    }
