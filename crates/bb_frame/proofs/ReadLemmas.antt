-- Bits that are a frame are read as that frame alone, and the others have one refusal.
use Rattle.std.proofs.Common.{◌≡◌, ℕ, ◌+◌, ◌-◌, ◌*◌, ◌%◌, ◌^◌, ◌<◌, ◌≤◌, ◌⊎◌, ⊎_elim, inl, inr, Bool, false, List, ◌++◌}
use Rattle.std.proofs.Common.{replicate, append_assoc, length, refl, ap, sym, ◌∙◌, arith}
use Rattle.std.specs.Prelude.{Result, Ok, Err, IfOk, IfErr, bit_xor}
use lib.Bits.{xor_assoc, xor_self, xor_zero_l}
use Rattle.std.proofs.lemmas.Bool.{cases_lt, cases_eq}
use Rattle.terms.specs.Bits.{part, number_at}
use Rattle.bb_frame.specs.declared.header.Header.{Header}
use Rattle.bb_frame.specs.declared.reading.BbView.{BbView}
use Rattle.bb_frame.specs.declared.fault.BbFault.{BbFault}
use Rattle.bb_frame.specs.declared.fault.BbFault.TheVariants.{Crc, Mode, Length, Sync}
use Rattle.bb_frame.specs.BasebandFrame.{mode, Spells, told_crc, counted_crc, told_dfl, told_syncd, IsPlace}
use Rattle.bb_frame.specs.BasebandFrame.{IsNormalMode, HasCrc}
use Rattle.bb_frame.specs.BasebandFrame.{HasLength, HasSync, Refuses}
use Rattle.bb_frame.specs.Reading.{HasFields, IsRead}
use Rattle.bb_frame.specs.Laws.{WrittenIsSpelled, NoRefusal, SpelledOrRefused, OneRefusal}
use Rattle.bb_frame.proofs.FrameLemmas.{Bounded, placed, spelled}

-- adding MODE changes the CRC-8
modes_differ : (x : ℕ) → ¬ (bit_xor x mode ≡ x)
modes_differ x same =
    let one : bit_xor x (bit_xor x mode) ≡ 1 = sym (xor_assoc x x mode) ∙ ap (λ (y : ℕ). bit_xor y mode) (xor_self x)
    ∙ xor_zero_l mode in
    let none : bit_xor x (bit_xor x mode) ≡ 0 = ap (bit_xor x) same ∙ xor_self x in
    absurd (omega arith)

not_normal : (bits : List Bool) → HasCrc bits → ¬ (IsNormalMode bits)
not_normal bits crc normal = modes_differ (counted_crc bits) (sym crc ∙ normal)

-- What is read is not refused.
not_refused : (bits : List Bool) (h : Header) (body : List Bool) (fault : BbFault) → IsRead bits h body
    → ¬ (Refuses bits fault)
not_refused bits h body Mode r refused = not_normal bits r.crc refused
not_refused bits h body Crc r refused = refused.1 r.crc
not_refused bits h body Length r refused = refused.1 r.len
not_refused bits h body Sync r refused = refused.2 r.sync

header_of : (a b c d e : ℕ) (k : Header) → a ≡ k.matype1 → b ≡ k.matype2 → c ≡ k.issy → d ≡ k.dfl → e ≡ k.syncd →
    record { matype1 = a; matype2 = b; issy = c; dfl = d; syncd = e } ≡ k
header_of a b c d e k p q r s t = rw (p, q, r, s, t) refl

abbrev made : Header → List Bool → BbView
made h body = record { header = h; field = body }

view_of : (h k : Header) (body other : List Bool) → h ≡ k → body ≡ other → made h body ≡ made k other
view_of h k body other p q = rw (p, q) refl

header_same : (bits : List Bool) (h k : Header) → HasFields bits h → HasFields bits k → h ≡ k
header_same bits h k r s =
    header_of h.matype1 h.matype2 h.issy h.dfl h.syncd k (r.matype1 ∙ sym s.matype1) (r.matype2 ∙ sym s.matype2)
    (r.issy ∙ sym s.issy) (r.dfl ∙ sym s.dfl)
    (r.syncd ∙ sym s.syncd)

view_same : (bits : List Bool) (v : BbView) (h : Header) (body : List Bool) → IsRead bits v.header v.field
    → IsRead bits h body
    → v ≡ record { header = h; field = body }
view_same bits v h body r s =
    let header : v.header ≡ h = header_same bits v.header h r.fields s.fields in
    view_of v.header h v.field body header (r.taken ∙ ap (λ (k : Header). part bits 80 k.dfl) header ∙ sym s.taken)

pub every_read : Bounded → (bits : List Bool) (r : Result BbView BbFault) → IfOk r (λ v. IsRead bits v.header v.field)
    → IfErr r (Refuses bits) →
    (h : Header) (body : List Bool) → Spells h body bits → r ≡ Ok (record { header = h; field = body })
every_read bounded bits (Ok v) ok err h body s = ap Ok (view_same bits v h body ok (placed bounded h body bits s))
every_read bounded bits (Err e) ok err h body s = absurd (not_refused bits h body e (placed bounded h body bits s) err)

pub ok_spelled : (bits : List Bool) (r : Result BbView BbFault) → 80 ≤ length bits
    → IfOk r (λ v. IsRead bits v.header v.field)
    → IfOk r (λ v. Spells v.header v.field bits)
ok_spelled bits (Ok v) long h = spelled bits v.header v.field long h
ok_spelled bits (Err e) long h = tt

pub written : WrittenIsSpelled
written h body size after fits describes = record {
  fits = fits;
  describes = describes;
  padding = replicate (size - 80 - length body) false ++ after;
  spelled = simp append_assoc;
}

pub frame_passes : Bounded → NoRefusal
frame_passes bounded h body bits fault s = not_refused bits h body fault (placed bounded h body bits s)

pub refused_once : OneRefusal
refused_once bits Mode Mode h k = refl
refused_once bits Mode Crc h k = absurd (k.0 h)
refused_once bits Mode Length h k = absurd (not_normal bits k.0 h)
refused_once bits Mode Sync h k = absurd (not_normal bits k.0 h)
refused_once bits Crc Mode h k = absurd (h.0 k)
refused_once bits Crc Crc h k = refl
refused_once bits Crc Length h k = absurd (h.1 k.0)
refused_once bits Crc Sync h k = absurd (h.1 k.0)
refused_once bits Length Mode h k = absurd (not_normal bits h.0 k)
refused_once bits Length Crc h k = absurd (k.1 h.0)
refused_once bits Length Length h k = refl
refused_once bits Length Sync h k = absurd (h.1 k.1)
refused_once bits Sync Mode h k = absurd (not_normal bits h.0 k)
refused_once bits Sync Crc h k = absurd (k.1 h.0)
refused_once bits Sync Length h k = absurd (k.1 h.1)
refused_once bits Sync Sync h k = refl

-- The header whose fields stand at the front of bits.
abbrev told_header : List Bool → Header
told_header bits = record {
  matype1 = number_at bits 0 8;
  matype2 = number_at bits 8 8;
  issy = number_at bits 16 16 * 2 ^ 8 + number_at bits 48 8;
  dfl = told_dfl bits;
  syncd = told_syncd bits;
}

len_or : (bits : List Bool) → HasLength bits ⊎ (¬ (HasLength bits))
len_or bits =
    ⊎_elim (λ (whole : told_dfl bits % 8 ≡ 0).
    ⊎_elim (λ (far : length bits < 80 + told_dfl bits). inr (λ (h : HasLength bits). let never : ⊥ =
    omega (arith, h.1, far) in
    never))
    (λ (there : 80 + told_dfl bits ≤ length bits). inl (whole, there)) (cases_lt (length bits) (80 + told_dfl bits)))
    (λ (cut : told_dfl bits % 8 ≡ 0 → ⊥). inr (λ (h : HasLength bits). cut h.0)) (cases_eq (told_dfl bits % 8) 0)

place_or : (syncd dfl : ℕ) → IsPlace syncd dfl ⊎ (¬ (IsPlace syncd dfl))
place_or syncd dfl =
    ⊎_elim (λ (none : syncd ≡ 65535). inl (inl none)) (λ (some : syncd ≡ 65535 → ⊥).
    ⊎_elim (λ (whole : syncd % 8 ≡ 0).
    ⊎_elim (λ (inside : syncd < dfl). inl (inr (whole, inside)))
    (λ (far : dfl ≤ syncd).
    inr (⊎_elim some (λ (h : (syncd % 8 ≡ 0) × (syncd < dfl)). let never : ⊥ = omega (arith, h.1, far) in never)))
    (cases_lt syncd dfl))
    (λ (cut : syncd % 8 ≡ 0 → ⊥). inr (⊎_elim some (λ (h : (syncd % 8 ≡ 0) × (syncd < dfl)). cut h.0)))
    (cases_eq (syncd % 8) 0))
    (cases_eq syncd 65535)

fields_told : (bits : List Bool) → HasFields bits (told_header bits)
fields_told bits = record { matype1 = refl; matype2 = refl; issy = refl; dfl = refl; syncd = refl }

pub frame_or_refused : SpelledOrRefused
frame_or_refused bits long =
    ⊎_elim (λ (normal : IsNormalMode bits). inr (Mode, normal)) (λ (high : ¬ (IsNormalMode bits)).
    ⊎_elim (λ (crc : HasCrc bits).
    ⊎_elim (λ (len : HasLength bits).
    ⊎_elim (λ (sync : HasSync bits).
    inl (
      told_header bits,
      (
        part bits 80 (told_dfl bits),
        spelled bits (told_header bits) (part bits 80 (told_dfl bits)) long
            (record { crc = crc; len = len; sync = sync; fields = fields_told bits; taken = refl }),
      ),
    ))
    (λ (none : ¬ (HasSync bits)). inr (Sync, (crc, len, none))) (place_or (told_syncd bits) (told_dfl bits)))
    (λ (none : ¬ (HasLength bits)). inr (Length, (crc, none))) (len_or bits))
    (λ (none : ¬ (HasCrc bits)). inr (Crc, (high, none))) (cases_eq (told_crc bits) (bit_xor (counted_crc bits) mode)))
    (cases_eq (told_crc bits) (counted_crc bits))
