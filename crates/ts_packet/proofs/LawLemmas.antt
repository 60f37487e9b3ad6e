-- Bytes that spell a packet are read as that packet alone.
use Rattle.std.proofs.Common.{◌≡◌, ℕ, zero, suc, inl, inr, ◌+◌, ◌^◌, ◌<◌, ◌≤◌, ◌==◌, ⊎_elim, Bool, true, false, List}
use Rattle.std.proofs.Common.{[], ◌∷◌}
use Rattle.std.proofs.Common.{◌++◌, length, drop, get_or, refl, ap, sym, subst, ◌∙◌, arith, append_assoc, append-nil}
use Rattle.std.proofs.Common.{length-append}
use Rattle.std.specs.Prelude.{◌⊎◌, ◌≢◌, Option, Some, None, Result, Ok, Err, IfOk, IfErr}
use Rattle.std.proofs.lemmas.Bool.{cases_lt, cases_eq}
use Rattle.std.proofs.lemmas.List.{drop_at, get_or_at, take_at, get_or_append_left}
use Rattle.std.proofs.lemmas.List.FromFn.{get_or-map-range_with_len}
use Rattle.terms.specs.Bits.{field, bits_of, number_of, part, number_at, bytes_of, byte_at, bytes_for}
use Rattle.terms.proofs.BitLemmas.{length-field, length-bits_of, bits_of-append, bits_of-bytes_of, length-bytes_of}
use Rattle.terms.proofs.BitLemmas.{byte_at-whole}
use Rattle.terms.proofs.BitLemmas.{number_at-lt}
use Rattle.terms.proofs.PartLemmas.{part-middle, number-middle}
use Rattle.ts_packet.specs.declared.sizes.TheConstants.{SYNC}
use Rattle.ts_packet.specs.declared.fault.TsFault.{TsFault}
use Rattle.ts_packet.specs.declared.fault.TsFault.TheVariants.{NoSync, BadAdaptation}
use Rattle.ts_packet.specs.TransportPacket.{Fields, flag, header_bits, control_of, adaptation_bytes, packet_bytes, Fits}
use Rattle.ts_packet.specs.TransportPacket.{Spells}
use Rattle.ts_packet.specs.TransportPacket.{HasSync, control_at, length_at, IsBadAdaptation, Refuses}
use Rattle.ts_packet.specs.Null.{is_null}
use Rattle.ts_packet.specs.Reading.{fields_of, place_for, IsRead}
use Rattle.ts_packet.specs.Laws.{OnePacket, NoRefusal, SpelledOrRefused, OneRefusal, NullByPid}
use Rattle.ts_packet.proofs.HeaderLemmas.{front_number}
use Rattle.ts_packet.proofs.SpellingLemmas.{spelled}

-- a bit that stands behind a front
flag-middle : (front more : List Bool) (at : ℕ) (b : Bool) → length front ≡ at
    → (number_at ((front ++ flag b) ++ more) at 1 == 1)
    ≡ b
flag-middle front more at true here =
    ap (λ (bits : List Bool). number_of bits == 1) (part-middle front (flag true) more at 1 here refl)
flag-middle front more at false here =
    ap (λ (bits : List Bool). number_of bits == 1) (part-middle front (flag false) more at 1 here refl)

-- What a header tells is what it was made of.
record Tells (f : Fields) (header : List Bool) (control : ℕ) : Type 0 where
  pub long : length header ≡ 32
  pub sync : number_at header 0 8 ≡ SYNC
  pub asked : number_at header 26 2 ≡ control
  pub fields : f ≡ fields_of header f.payload

-- the header that fields make
header_tells : (f : Fields) (priority : Bool) (control : ℕ) → Fits f → control < 2 ^ 2
    → Tells f (header_bits f priority control) control
header_tells f priority control fit small =
    let sync : List Bool = field 8 SYNC in
    let error : List Bool = flag f.error in
    let starts : List Bool = flag f.starts in
    let third : List Bool = flag priority in
    let pid : List Bool = field 13 f.pid in
    let scrambling : List Bool = field 2 f.scrambling in
    let asked : List Bool = field 2 control in
    let counter : List Bool = field 4 f.counter in
    let header : List Bool = header_bits f priority control in
    let at_sync : header ≡ ([] ++ sync)
    ++ (error ++ (starts ++ (third ++ (pid ++ (scrambling ++ (asked ++ counter)))))) =
    simp append_assoc in
    let at_error : header ≡ (sync ++ error) ++ (starts ++ (third ++ (pid ++ (scrambling ++ (asked ++ counter))))) =
    simp append_assoc in
    let at_starts : header ≡ ((sync ++ error) ++ starts) ++ (third ++ (pid ++ (scrambling ++ (asked ++ counter)))) =
    simp append_assoc in
    let at_pid : header ≡ ((sync ++ error ++ starts ++ third) ++ pid) ++ (scrambling ++ (asked ++ counter)) =
    simp append_assoc in
    let at_scrambling : header ≡ ((sync ++ error ++ starts ++ third ++ pid) ++ scrambling) ++ (asked ++ counter) =
    simp append_assoc in
    let at_asked : header ≡ ((sync ++ error ++ starts ++ third ++ pid ++ scrambling) ++ asked)
    ++ counter = simp append_assoc in
    let at_counter : header ≡ ((sync ++ error ++ starts ++ third ++ pid ++ scrambling ++ asked) ++ counter) ++ [] =
    sym (append-nil header) in
    let to_error : length sync ≡ 8 = length-field 8 SYNC in
    let to_starts : length (sync ++ error) ≡ 9 = simp (length-append, length-field) refl in
    let to_pid : length (sync ++ error ++ starts ++ third) ≡ 11 = simp (length-append, length-field) refl in
    let to_scrambling : length (sync ++ error ++ starts ++ third ++ pid) ≡ 24 = simp (length-append, length-field)
    refl in
    let to_asked : length (sync ++ error ++ starts ++ third ++ pid ++ scrambling) ≡ 26 =
    simp (length-append, length-field) refl in
    let to_counter : length (sync ++ error ++ starts ++ third ++ pid ++ scrambling ++ asked) ≡ 28 =
    simp (length-append, length-field) refl in
    let told_error : (number_at header 8 1 == 1) ≡ f.error = ap (λ (bits : List Bool). number_at bits 8 1 == 1) at_error
    ∙ flag-middle sync _ 8 f.error to_error in
    let told_starts : (number_at header 9 1 == 1) ≡ f.starts = ap (λ (bits : List Bool). number_at bits 9 1 == 1)
    at_starts
    ∙ flag-middle (sync ++ error) _ 9 f.starts to_starts in
    let told_pid : number_at header 11 13 ≡ f.pid = ap (λ (bits : List Bool). number_at bits 11 13) at_pid
    ∙ number-middle (sync ++ error ++ starts ++ third) _ 11 13 f.pid to_pid fit.pid in
    let told_scrambling : number_at header 24 2 ≡ f.scrambling = ap (λ (bits : List Bool). number_at bits 24 2)
    at_scrambling
    ∙ number-middle (sync ++ error ++ starts ++ third ++ pid) _ 24 2 f.scrambling to_scrambling fit.scrambling in
    let told_counter : number_at header 28 4 ≡ f.counter = ap (λ (bits : List Bool). number_at bits 28 4) at_counter
    ∙ number-middle (sync ++ error ++ starts ++ third ++ pid ++ scrambling ++ asked) _ 28 4 f.counter to_counter
    fit.counter in
    record {
      long = simp (length-append, length-field) refl;
      sync = ap (λ (bits : List Bool). number_at bits 0 8) at_sync ∙ number-middle [] _ 0 8 SYNC refl (omega arith);
      asked = ap (λ (bits : List Bool). number_at bits 26 2) at_asked
          ∙ number-middle (sync ++ error ++ starts ++ third ++ pid ++ scrambling) _ 26 2 control to_asked small;
      fields =
          sym (λ i. record {
            error = told_error i;
            starts = told_starts i;
            pid = told_pid i;
            scrambling = told_scrambling i;
            counter = told_counter i;
            payload = f.payload;
          });
    }

-- adaptation_field_control has two bits
control_small : (adaptation : Option (List ℕ)) (payload : List ℕ) → control_of adaptation payload < 2 ^ 2
control_small None payload = omega arith
control_small (Some a) [] = omega arith
control_small (Some a) (x ∷ payload) = omega arith

-- adaptation fields that are not bad
none_good : (len : ℕ) → ¬ (IsBadAdaptation 1 len)
none_good len bad = grind arith

alone_good : (len : ℕ) → len ≡ 183 → ¬ (IsBadAdaptation 2 len)
alone_good len full bad = grind arith

both_good : (len : ℕ) → len ≤ 182 → ¬ (IsBadAdaptation 3 len)
both_good len short bad = grind arith

-- A length is bad or not.
bad_or_good : (control len : ℕ) → control < 4 → (IsBadAdaptation control len) ⊎ (¬ (IsBadAdaptation control len))
bad_or_good zero len small = inl (inl refl)
bad_or_good (suc zero) len small = inr (none_good len)
bad_or_good (suc (suc zero)) len small =
    ⊎_elim (λ (e : len ≡ 183). inr (alone_good len e)) (λ (ne : len ≢ 183). inl (inr (inl (refl, ne))))
    (cases_eq len 183)
bad_or_good (suc (suc (suc zero))) len small =
    ⊎_elim (λ (l : 182 < len). inl (inr (inr (refl, l)))) (λ (le : len ≤ 182). inr (both_good len le))
    (cases_lt 182 len)
bad_or_good (suc (suc (suc (suc n)))) len small = absurd (omega arith)

-- What stands behind a header is found: its adaptation field is not bad, and its payload has its place.
record Found (bytes : List ℕ) (control : ℕ) (payload : List ℕ) : Type 0 where
  pub good : ¬ (IsBadAdaptation control (length_at bytes))
  pub rest : drop (place_for control (length_at bytes)) bytes ≡ payload

-- the bytes behind a header with an adaptation field
record HasField (bytes : List ℕ) (len : ℕ) (payload : List ℕ) : Type 0 where
  pub told : length_at bytes ≡ len
  pub rest : drop (5 + length_at bytes) bytes ≡ payload
  pub whole : length bytes ≡ 5 + len + length payload

-- a header, an adaptation field and a payload, one behind another
has_field : (header adaptation payload : List ℕ) → length header ≡ 4
    → HasField (header ++ (length adaptation ∷ adaptation) ++ payload) (length adaptation) payload
has_field header adaptation payload long =
    let bytes : List ℕ = header ++ (length adaptation ∷ adaptation) ++ payload in
    let front : length (header ++ (length adaptation ∷ adaptation)) ≡ 5 + length adaptation =
    length-append header (length adaptation ∷ adaptation) ∙ omega (arith, long) in
    let told : length_at bytes ≡ length adaptation =
    ap (λ (xs : List ℕ). get_or xs 4 0) (append_assoc header (length adaptation ∷ adaptation) payload)
    ∙ get_or_at header (length adaptation) (adaptation ++ payload) 0 4 long in
    record {
      told = told;
      rest = drop_at (header ++ (length adaptation ∷ adaptation)) payload (5 + length_at bytes)
          (front ∙ ap (λ (n : ℕ). 5 + n) (sym told));
      whole = length-append (header ++ (length adaptation ∷ adaptation)) payload
          ∙ ap (λ (n : ℕ). n + length payload) front;
    }

-- the same with or without an adaptation field
found : (header : List ℕ) (adaptation : Option (List ℕ)) (payload : List ℕ) → length header ≡ 4
    → length (header ++ adaptation_bytes adaptation ++ payload) ≡ 188 →
    Found (header ++ adaptation_bytes adaptation ++ payload) (control_of adaptation payload) payload
found header None payload long whole = record {
  good = none_good (length_at (header ++ [] ++ payload));
  rest = drop_at (header ++ []) payload 4 (ap length (append-nil header) ∙ long);
}
found header (Some a) [] long whole =
    let has = has_field header a [] long in
    record {
      good = alone_good (length_at (header ++ (length a ∷ a) ++ [])) (omega (arith, has.told, has.whole, whole));
      rest = has.rest;
    }
found header (Some a) (x ∷ payload) long whole =
    let has = has_field header a (x ∷ payload) long in
    record {
      good = both_good (length_at (header ++ (length a ∷ a) ++ x ∷ payload))
          (omega (arith, has.told, has.whole, whole));
      rest = has.rest;
    }

-- A packet is read back.
read_packet : (f : Fields) (priority : Bool) (adaptation : Option (List ℕ)) → Fits f
    → length (packet_bytes f priority adaptation)
    ≡ 188 → IsRead (packet_bytes f priority adaptation) f
unfolding packet_bytes
read_packet f priority adaptation fit long =
    let control : ℕ = control_of adaptation f.payload in
    let header : List Bool = header_bits f priority control in
    let tells = header_tells f priority control fit (control_small adaptation f.payload) in
    let front : List ℕ = bytes_of header in
    let bytes : List ℕ = front ++ adaptation_bytes adaptation ++ f.payload in
    let four : length front ≡ 4 = length-bytes_of header ∙ ap bytes_for tells.long in
    let first : part (bits_of bytes) 0 32 ≡ header =
    ap (λ (xs : List ℕ). part (bits_of xs) 0 32) (append_assoc front (adaptation_bytes adaptation) f.payload)
    ∙ ap (λ (bits : List Bool). part bits 0 32) (bits_of-append front (adaptation_bytes adaptation ++ f.payload))
    ∙ ap (λ (bits : List Bool). part (bits ++ bits_of (adaptation_bytes adaptation ++ f.payload)) 0 32)
    (bits_of-bytes_of header 4 (omega (arith, tells.long)))
    ∙ take_at header (bits_of (adaptation_bytes adaptation ++ f.payload)) 32 tells.long in
    let asked : control ≡ control_at bytes =
    sym (sym (front_number (bits_of bytes) 26 2 (omega arith)) ∙ ap (λ (bits : List Bool). number_at bits 26 2) first
    ∙ tells.asked) in
    let rest = found front adaptation f.payload four long in
    record {
      sync = ap (λ (xs : List ℕ). get_or xs 0 0) (append_assoc front (adaptation_bytes adaptation) f.payload)
          ∙ get_or_append_left front (adaptation_bytes adaptation ++ f.payload) 0 0 (omega (arith, four))
          ∙ get_or-map-range_with_len (byte_at header) 0 (bytes_for (length header)) 0 0 0 (omega (arith, tells.long))
          refl
          ∙ byte_at-whole header 0 (omega (arith, tells.long)) ∙ tells.sync;
      adaptation = subst (λ (n : ℕ). ¬ (IsBadAdaptation n (length_at bytes))) asked rest.good;
      fields = tells.fields ∙ ap (λ (bits : List Bool). fields_of bits f.payload) (sym first)
          ∙ ap (fields_of (part (bits_of bytes) 0 32))
          (sym rest.rest ∙ ap (λ (n : ℕ). drop (place_for n (length_at bytes)) bytes) asked);
    }

-- Bytes that spell a packet are read as it.
pub read_back : (f : Fields) (bytes : List ℕ) → Spells f bytes → IsRead bytes f
read_back f bytes s =
    subst (λ (xs : List ℕ). IsRead xs f) (sym s.spelled)
    (read_packet f s.priority s.adaptation s.fits (ap length (sym s.spelled) ∙ s.whole))

-- Behind a sync byte, bytes spell a packet or are refused.
spelled_if_good : (bytes : List ℕ) → length bytes ≡ 188 → ((k : ℕ) → get_or bytes k 0 < 256) → HasSync bytes
    → (IsBadAdaptation (control_at bytes) (length_at bytes))
    ⊎ (¬ (IsBadAdaptation (control_at bytes) (length_at bytes))) →
    ((f : Fields) × Spells f bytes) ⊎ ((fault : TsFault) × Refuses bytes fault)
spelled_if_good bytes long small sync (inl bad) = inr (BadAdaptation, (sync, bad))
spelled_if_good bytes long small sync (inr good) =
    let f : Fields = fields_of (part (bits_of bytes) 0 32) (drop (place_for (control_at bytes) (length_at bytes))
    bytes) in
    inl (f, spelled bytes f long small (record { sync = sync; adaptation = good; fields = refl }))

-- the same without knowing the sync byte
spelled_if_sync : (bytes : List ℕ) → length bytes ≡ 188 → ((k : ℕ) → get_or bytes k 0 < 256) → (HasSync bytes)
    ⊎ (¬ (HasSync bytes)) → ((f : Fields) × Spells f bytes) ⊎ ((fault : TsFault) × Refuses bytes fault)
spelled_if_sync bytes long small (inl sync) =
    spelled_if_good bytes long small sync
    (bad_or_good (control_at bytes) (length_at bytes)
    (number_at-lt (bits_of bytes) 26 2 (omega (arith, long, length-bits_of bytes))))
spelled_if_sync bytes long small (inr none) = inr (NoSync, none)

pub spelled_or_refused : SpelledOrRefused
spelled_or_refused bytes long small = spelled_if_sync bytes long small (cases_eq (get_or bytes 0 0) SYNC)

-- A string is read as one packet.
one_read : (bytes : List ℕ) (f g : Fields) → IsRead bytes f → IsRead bytes g → f ≡ g
one_read bytes f g a b = a.fields ∙ sym b.fields

pub one_packet : OnePacket
one_packet f g bytes s t = one_read bytes f g (read_back f bytes s) (read_back g bytes t)

-- What is read is not refused.
not_refused : (bytes : List ℕ) (f : Fields) (fault : TsFault) → IsRead bytes f → Refuses bytes fault → ⊥
not_refused bytes f NoSync r refused = refused r.sync
not_refused bytes f BadAdaptation r refused = r.adaptation refused.1

pub no_refusal : NoRefusal
no_refusal f bytes fault s refused = not_refused bytes f fault (read_back f bytes s) refused

pub one_refusal : OneRefusal
one_refusal bytes NoSync NoSync a b = refl
one_refusal bytes NoSync BadAdaptation a b = absurd (a b.0)
one_refusal bytes BadAdaptation NoSync a b = absurd (b a.0)
one_refusal bytes BadAdaptation BadAdaptation a b = refl

pub null_by_pid : NullByPid
unfolding is_null
null_by_pid f bytes s =
    let r = read_back f bytes s in
    ap (λ (n : ℕ). n == 0x1FFF) (sym (front_number (bits_of bytes) 11 13 (omega arith))
    ∙ ap (λ (g : Fields). g.pid) (sym r.fields))

-- an answer, if the packet is known
answer : (bytes : List ℕ) (r : Result Fields TsFault) (f : Fields) → IsRead bytes f → IfOk r (IsRead bytes)
    → IfErr r (Refuses bytes) → r ≡ Ok f
answer bytes (Ok g) f there ok err = ap Ok (one_read bytes g f ok there)
answer bytes (Err fault) f there ok err = absurd (not_refused bytes f fault there err)

-- A reader that answers with what is read or with a refusal answers with the packet that the bytes spell.
pub every_read : (bytes : List ℕ) (r : Result Fields TsFault) → IfOk r (IsRead bytes) → IfErr r (Refuses bytes)
    → (f : Fields)
    → Spells f bytes → r ≡ Ok f
every_read bytes r ok err f s = answer bytes r f (read_back f bytes s) ok err
