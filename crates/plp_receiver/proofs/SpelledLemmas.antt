-- Where the fields of a baseband frame stand in the bits that spell it, so that bits spell one frame at most.
use Rattle.std.proofs.Common.{◌≡◌, ◌+◌, ◌/◌, ◌%◌, ◌^◌, ◌<◌, ◌≤◌, Bool, List, ◌++◌, length, refl, ap, sym, ◌∙◌, arith}
use Rattle.std.proofs.Common.{append_assoc, length-append}
use Rattle.std.specs.Prelude.{bit_xor}
use Rattle.bit_slice.specs.Crc.{crc8_of}
use Rattle.terms.specs.Bits.{field, number_of, part, number_at}
use Rattle.terms.proofs.BitLemmas.{length-field, number_of-field-mod}
use Rattle.terms.proofs.PartLemmas.{part-middle, number-middle}
use Rattle.bb_frame.specs.BasebandFrame.{fields_bits, mode, header_bits, Spells}
use Rattle.bb_frame.specs.Laws.{BitCounts}
use Rattle.bb_frame.specs.declared.header.Header.{Header}

-- the numbers of some fields
record Tells (h : Header) (bits : List Bool) : Type 0 where
  upper : number_at bits 16 16 ≡ h.issy / 2 ^ 8
  dfl : number_at bits 32 16 ≡ h.dfl
  lower : number_at bits 48 8 ≡ h.issy % 2 ^ 8
  syncd : number_at bits 56 16 ≡ h.syncd

tells : (h : Header) (body bits : List Bool) → Spells h body bits → Tells h bits
tells h body bits s =
    let fit = s.fits in
    let a : List Bool = field 8 h.matype1 in
    let b : List Bool = field 8 h.matype2 in
    let c : List Bool = field 16 (h.issy / 2 ^ 8) in
    let d : List Bool = field 16 h.dfl in
    let e : List Bool = field 8 h.issy in
    let f : List Bool = field 16 h.syncd in
    let g : List Bool = field 8 (bit_xor (crc8_of (fields_bits h)) mode) in
    let rest_f : List Bool = g ++ (body ++ s.padding) in
    let rest_e : List Bool = f ++ rest_f in
    let rest_d : List Bool = e ++ rest_e in
    let rest_c : List Bool = d ++ rest_d in
    let at_c : bits ≡ ((a ++ b) ++ c) ++ (d ++ (e ++ (f ++ (g ++ (body ++ s.padding))))) = s.spelled
    ∙ simp append_assoc in
    let at_d : bits ≡ ((a ++ b ++ c) ++ d) ++ (e ++ (f ++ (g ++ (body ++ s.padding)))) = s.spelled
    ∙ simp append_assoc in
    let at_e : bits ≡ ((a ++ b ++ c ++ d) ++ e) ++ (f ++ (g ++ (body ++ s.padding))) = s.spelled ∙ simp append_assoc in
    let at_f : bits ≡ ((a ++ b ++ c ++ d ++ e) ++ f) ++ (g ++ (body ++ s.padding)) = s.spelled ∙ simp append_assoc in
    let two : length (a ++ b) ≡ 16 = simp (length-append, length-field) refl in
    let four : length (a ++ b ++ c) ≡ 32 = simp (length-append, length-field) refl in
    let six : length (a ++ b ++ c ++ d) ≡ 48 = simp (length-append, length-field) refl in
    let seven : length (a ++ b ++ c ++ d ++ e) ≡ 56 = simp (length-append, length-field) refl in
    let high : h.issy / 2 ^ 8 < 2 ^ 16 = let small = fit.issy in omega arith in
    record {
      upper = ap (λ (xs : List Bool). number_at xs 16 16) at_c ∙ number-middle (a ++ b) rest_c 16 16
          (h.issy / 2 ^ 8) two high;
      dfl = ap (λ (xs : List Bool). number_at xs 32 16) at_d ∙ number-middle (a ++ b ++ c) rest_d 32
          16 h.dfl four fit.dfl;
      lower = ap (λ (xs : List Bool). number_at xs 48 8) at_e
          ∙ ap number_of (part-middle (a ++ b ++ c ++ d) e rest_e 48 8 six (length-field 8 h.issy))
          ∙ number_of-field-mod 8 h.issy;
      syncd = ap (λ (xs : List Bool). number_at xs 56 16) at_f
          ∙ number-middle (a ++ b ++ c ++ d ++ e) rest_f 56 16 h.syncd seven fit.syncd;
    }

-- the data field stands behind the header
pub field_behind : BitCounts → (h : Header) (body bits : List Bool) → Spells h body bits → (80 + h.dfl ≤ length bits)
    × (body ≡ part bits 80 h.dfl)
field_behind counts h body bits s =
    let behind : bits ≡ (header_bits h ++ body) ++ s.padding = s.spelled in
    let len = s.describes.len in
    let size : length bits ≡ 80 + length body + length s.padding =
    ap length behind ∙ omega (
      arith,
      length-append (header_bits h ++ body) s.padding,
      length-append (header_bits h) body,
      counts.header h,
    ) in (
      omega (arith, size, len),
      sym (ap (λ (xs : List Bool). part xs 80 h.dfl) behind ∙ part-middle (header_bits h) body s.padding 80 h.dfl
          (counts.header h) (sym len)),
    )

-- two frames that bits spell have the same numbers, and the same data field
pub record AreSame (h k : Header) (body other : List Bool) : Type 0 where
  pub issy : h.issy ≡ k.issy
  pub syncd : h.syncd ≡ k.syncd
  pub field : body ≡ other

pub spelled_once : BitCounts → (h k : Header) (body other bits : List Bool) → Spells h body bits → Spells k other bits
    → AreSame h k body other
spelled_once counts h k body other bits s t =
    let a = tells h body bits s in
    let b = tells k other bits t in
    let upper : h.issy / 2 ^ 8 ≡ k.issy / 2 ^ 8 = sym a.upper ∙ b.upper in
    let lower : h.issy % 2 ^ 8 ≡ k.issy % 2 ^ 8 = sym a.lower ∙ b.lower in
    let dfl : h.dfl ≡ k.dfl = sym a.dfl ∙ b.dfl in
    record {
      issy = omega (arith, upper, lower);
      syncd = sym a.syncd ∙ b.syncd;
      field = (field_behind counts h body bits s).1 ∙ ap (part bits 80) dfl
          ∙ sym (field_behind counts k other bits t).1;
    }
