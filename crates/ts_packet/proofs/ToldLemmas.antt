-- The fields that bytes tell place by place are those of the packet that they spell.
use Rattle.std.proofs.Common.{◌≡◌, ℕ, zero, suc, inl, inr, ◌^◌, ◌<◌, ◌≤◌, ◌&&◌, ◌||◌, ⊎_elim, Bool, true, false, List}
use Rattle.std.proofs.Common.{◌++◌}
use Rattle.std.proofs.Common.{length, drop, get_or, nat_le, refl, ap, sym, subst, ◌∙◌, arith, eq-eqb, ne_eqb, le-leb}
use Rattle.std.proofs.Common.{length-append}
use Rattle.std.specs.Prelude.{◌≢◌, Some, None}
use Rattle.std.proofs.lemmas.Bool.{lt-leb, and_from, cases_eq, cases_lt, cond-true, cond-false}
use Rattle.std.proofs.lemmas.Option.{none-some, same_Some}
use Rattle.std.proofs.lemmas.List.{drop_at}
use Rattle.terms.specs.Bits.{bits_of, bytes_of}
use Rattle.terms.proofs.BitLemmas.{length-bits_of, length-bytes_of, number_at-lt}
use Rattle.ts_packet.specs.declared.sizes.TheConstants.{SYNC}
use Rattle.ts_packet.specs.declared.fault.TsFault.{TsFault}
use Rattle.ts_packet.specs.declared.fault.TsFault.TheVariants.{NoSync, BadAdaptation}
use Rattle.ts_packet.specs.TransportPacket.{Fields, header_bits, control_of, adaptation_bytes, packet_bytes, Spells}
use Rattle.ts_packet.specs.TransportPacket.{control_at}
use Rattle.ts_packet.specs.TransportPacket.{length_at, IsBadAdaptation, Refuses}
use Rattle.ts_packet.specs.Reading.{IsRead}
use Rattle.ts_packet.specs.FieldsIn.{fits_adaptation, is_packet, fields_in}
use Rattle.ts_packet.specs.Laws.{FieldsTold, PayloadLast}
use Rattle.ts_packet.proofs.LawLemmas.{read_back, spelled_or_refused}
use Rattle.ts_packet.proofs.WritingLemmas.{length-header_bits}

-- An adaptation field that is not bad fits.
fits_good : (control len : ℕ) → control < 4 → ¬ (IsBadAdaptation control len) → fits_adaptation control len ≡ true
fits_good zero len small good = absurd (good (inl refl))
fits_good (suc zero) len small good = refl
fits_good (suc (suc zero)) len small good = ⊎_elim
    (λ (e : len ≡ 183). ap (λ (n : ℕ). fits_adaptation 2 n) e)
    (λ (ne : len ≢ 183). absurd (good (inr (inl (refl, ne))))) (cases_eq len 183)
fits_good (suc (suc (suc zero))) len small good = ⊎_elim
    (λ (l : 182 < len). absurd (good (inr (inr (refl, l)))))
    (λ (le : len ≤ 182). le-leb len 182 le) (cases_lt 182 len)
fits_good (suc (suc (suc (suc n)))) len small good = absurd (omega arith)

-- A bad one does not.
fits_bad : (control len : ℕ) → IsBadAdaptation control len → fits_adaptation control len ≡ false
fits_bad control len (inl e) = ap (λ (n : ℕ). fits_adaptation n len) e
fits_bad control len (inr (inl (e, ne))) = ap (λ (n : ℕ). fits_adaptation n len) e
    ∙ ap (λ (b : Bool). (false || (true && b)) || (false && nat_le len 182)) (ne_eqb len 183 ne)
fits_bad control len (inr (inr (e, l))) = ap (λ (n : ℕ). fits_adaptation n len) e ∙ lt-leb len 182 l

-- What is read tells its fields.
read_told : (bytes : List ℕ) (f : Fields) → length bytes ≡ 188 → IsRead bytes f → fields_in bytes ≡ Some f
unfolding fields_in
read_told bytes f long r =
    let small : control_at bytes < 2 ^ 2 = number_at-lt (bits_of bytes) 26 2
    (omega (arith, long, length-bits_of bytes)) in
    let test : is_packet bytes ≡ true =
    and_from _ _ (eq-eqb (get_or bytes 0 0) SYNC r.sync)
    (fits_good (control_at bytes) (length_at bytes) small r.adaptation) in
    cond-true _ _ _ test ∙ ap Some (sym r.fields)

refused_none : (bytes : List ℕ) (fault : TsFault) → Refuses bytes fault → fields_in bytes ≡ None
unfolding fields_in
refused_none bytes NoSync none =
    cond-false _ _ _ (ap (λ (b : Bool). b && fits_adaptation (control_at bytes) (length_at bytes))
    (ne_eqb (get_or bytes 0 0) SYNC none))
refused_none bytes BadAdaptation (sync, bad) =
    cond-false _ _ _ (ap (λ (b : Bool). b && fits_adaptation (control_at bytes) (length_at bytes))
    (eq-eqb (get_or bytes 0 0) SYNC sync) ∙ fits_bad (control_at bytes) (length_at bytes) bad)

spelled_told : (f : Fields) (bytes : List ℕ) → Spells f bytes → fields_in bytes ≡ Some f
spelled_told f bytes s = read_told bytes f s.whole (read_back f bytes s)

told_spelled : (f : Fields) (bytes : List ℕ) → length bytes ≡ 188 → ((k : ℕ) → get_or bytes k 0 < 256)
    → fields_in bytes ≡ Some f
    → Spells f bytes
told_spelled f bytes long small told = ⊎_elim
    (λ (p : (g : Fields) × Spells g bytes). subst (λ (h : Fields). Spells h bytes)
    (same_Some p.0 f (sym (spelled_told p.0 bytes p.1) ∙ told)) p.1)
    (λ (p : (fault : TsFault) × Refuses bytes fault). absurd (none-some f (sym (refused_none bytes p.0 p.1) ∙ told)))
    (spelled_or_refused bytes long small)

pub fields_told : FieldsTold
fields_told = record { spelled = spelled_told; refused = refused_none; told = told_spelled }

pub payload_last : PayloadLast
unfolding packet_bytes
payload_last f bytes front s here =
    let header : List ℕ = bytes_of (header_bits f s.priority (control_of s.adaptation f.payload)) in
    let size = length-append (header ++ adaptation_bytes s.adaptation) f.payload in
    let four : length header ≡ 4 = length-bytes_of (header_bits f s.priority (control_of s.adaptation f.payload))
    ∙ rw (length-header_bits f s.priority (control_of s.adaptation f.payload)) refl in
    let before : length (header ++ adaptation_bytes s.adaptation) ≡ front =
    omega (arith, size, ap length s.spelled, s.whole, here) in (
      ap (drop front) s.spelled ∙ drop_at (header ++ adaptation_bytes s.adaptation) f.payload front before,
      omega (arith, before, four, length-append header (adaptation_bytes s.adaptation)),
    )
