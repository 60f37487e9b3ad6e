-- What was read place by place, put together: the bytes spell a packet.
use Rattle.std.proofs.Common.{◌≡◌, ℕ, zero, suc, ◌+◌, ◌-◌, ◌*◌, ◌%◌, ◌^◌, ◌<◌, ◌≤◌, ◌==◌, inl, Bool, true, false, List}
use Rattle.std.proofs.Common.{[], ◌∷◌}
use Rattle.std.proofs.Common.{◌++◌, length, take, drop, get_or, refl, ap, sym, subst, ◌∙◌, arith}
use Rattle.std.specs.Prelude.{Result, Ok, Err, IfOk, Option, Some, None}
use Rattle.std.proofs.lemmas.List.{take-append-drop, take_all, drop_all, drop_more, drop-drop, length-drop}
use Rattle.std.proofs.lemmas.List.{length-take-le}
use Rattle.std.proofs.lemmas.List.{append_assoc}
use Rattle.terms.specs.Bits.{field, bits_of, number_of, part, number_at, bytes_of}
use Rattle.terms.proofs.BitLemmas.{length-bits_of, length-part, part-bits_of, field-number_at, bytes_of-bits_of}
use Rattle.terms.proofs.BitLemmas.{number_at-bits_of, number_at-lt, small_take}
use Rattle.terms.proofs.PartLemmas.{part-add}
use Rattle.ts_packet.specs.TransportPacket.{Fields, flag, header_bits, control_of, adaptation_bytes, packet_bytes}
use Rattle.ts_packet.specs.TransportPacket.{Spells}
use Rattle.ts_packet.specs.TransportPacket.{HasSync, control_at, length_at, IsBadAdaptation}
use Rattle.ts_packet.specs.Reading.{fields_of, place_for, IsRead}
use Rattle.ts_packet.proofs.HeaderLemmas.{front_number, header_number}

-- A header and a payload that were read off are those of the bytes.
pub is_read : (bytes : List ℕ) (header place control : ℕ) → length bytes ≡ 188 → HasSync bytes
    → field 32 header ≡ part (bits_of bytes) 0 32 →
    control ≡ number_at (field 32 header) 26 2 → ¬ (IsBadAdaptation control (length_at bytes))
    → place ≡ place_for control (length_at bytes) →
    IsRead bytes (fields_of (field 32 header) (take (188 - place) (drop place bytes)))
is_read bytes header place control long sync e told good at =
    let seen : control ≡ control_at bytes = told ∙ header_number bytes header 26 2 e (omega arith) in
    let rest : take (188 - place) (drop place bytes) ≡ drop place bytes =
    take_all (188 - place) (drop place bytes) (simp length-drop (omega (arith, long))) in
    let here : place ≡ place_for (control_at bytes) (length_at bytes) = at
    ∙ ap (λ (n : ℕ). place_for n (length_at bytes)) seen in
    record {
      sync = sync;
      adaptation = subst (λ (n : ℕ). ¬ (IsBadAdaptation n (length_at bytes))) seen good;
      fields = ap (λ (bits : List Bool). fields_of bits (take (188 - place) (drop place bytes))) e
          ∙ ap (fields_of (part (bits_of bytes) 0 32)) (rest ∙ ap (λ (k : ℕ). drop k bytes) here);
    }

-- a bit that was read off, as a field
one_bit : (bits : List Bool) → 1 ≤ length bits → take 1 bits ≡ flag (number_of (take 1 bits) == 1)
one_bit [] h = absurd (omega arith)
one_bit (true ∷ bits) h = refl
one_bit (false ∷ bits) h = refl

-- a bit at a place, as a field
flag_at : (bits : List Bool) (at : ℕ) → at < length bits → part bits at 1 ≡ flag (number_at bits at 1 == 1)
flag_at bits at h = one_bit (drop at bits) (simp length-drop (omega arith))

-- a header, part by part
header_parts : (bits : List Bool) → part bits 0 32 ≡ part bits 0 8 ++ part bits 8 1 ++ part bits 9 1 ++ part bits 10 1
    ++ part bits 11 13 ++ part bits 24 2 ++ part bits 26 2 ++ part bits 28 4
header_parts bits =
    part-add bits 0 28 4
    ∙ ap (λ (front : List Bool). front ++ part bits 28 4) (part-add bits 0 26 2
    ∙ ap (λ (front : List Bool). front ++ part bits 26 2) (part-add bits 0 24 2
    ∙ ap (λ (front : List Bool). front ++ part bits 24 2) (part-add bits 0 11 13
    ∙ ap (λ (front : List Bool). front ++ part bits 11 13) (part-add bits 0 10 1
    ∙ ap (λ (front : List Bool). front ++ part bits 10 1) (part-add bits 0 9 1
    ∙ ap (λ (front : List Bool). front ++ part bits 9 1) (part-add bits 0 8 1))))))

-- a header of 32 bits is that of its fields
header_is : (bits : List Bool) (payload : List ℕ) → length bits ≡ 32 → number_at bits 0 8 ≡ 0x47 →
    bits ≡ header_bits (fields_of bits payload) (number_at bits 10 1 == 1) (number_at bits 26 2)
header_is bits payload long sync =
    let first : part bits 0 8 ≡ field 8 0x47 = sym (field-number_at bits 0 8 (omega arith)) ∙ ap (field 8) sync in
    let error = flag_at bits 8 (omega arith) in
    let starts = flag_at bits 9 (omega arith) in
    let priority = flag_at bits 10 (omega arith) in
    let pid : part bits 11 13 ≡ field 13 (number_at bits 11 13) = sym (field-number_at bits 11 13 (omega arith)) in
    let scrambling : part bits 24 2 ≡ field 2 (number_at bits 24 2) = sym (field-number_at bits 24 2 (omega arith)) in
    let control : part bits 26 2 ≡ field 2 (number_at bits 26 2) = sym (field-number_at bits 26 2 (omega arith)) in
    let counter : part bits 28 4 ≡ field 4 (number_at bits 28 4) = sym (field-number_at bits 28 4 (omega arith)) in
    sym (take_all 32 bits (omega arith)) ∙ header_parts bits ∙ cc

-- What stands behind the header: an adaptation field, if any, and the payload.
record Behind (bytes : List ℕ) (control : ℕ) (payload : List ℕ) : Type 0 where
  pub adaptation : Option (List ℕ)
  pub told : control ≡ control_of adaptation payload
  pub parts : drop 4 bytes ≡ adaptation_bytes adaptation ++ payload

-- an adaptation field of this length
field_parts : (bytes : List ℕ) (len : ℕ) → length bytes ≡ 188 → len ≡ length_at bytes → 5 + len ≤ 188 →
    drop 4 bytes ≡ adaptation_bytes (Some (take len (drop 5 bytes))) ++ drop (5 + len) bytes
field_parts bytes len long told inside =
    let size : length (take len (drop 5 bytes)) ≡ len =
    length-take-le len (drop 5 bytes) (simp length-drop (omega (arith, long))) in
    drop_more bytes 4 0 (omega (arith, long))
    ∙ ap (λ (n : ℕ). n ∷ drop 5 bytes) (sym told ∙ sym size)
    ∙ ap (λ (xs : List ℕ). length (take len (drop 5 bytes)) ∷ xs) (sym (take-append-drop len (drop 5 bytes))
    ∙ ap (λ (xs : List ℕ). take len (drop 5 bytes) ++ xs) (drop-drop len 5 bytes))

-- if the length is not bad, it is the one asked for
exact : (len : ℕ) → ¬ (IsBadAdaptation 2 len) → len ≡ 183
exact len good = grind arith

-- if it leaves a payload a byte, it is 182 at most
most : (len : ℕ) → ¬ (IsBadAdaptation 3 len) → len ≤ 182
most len good = grind arith

-- What stands behind a header whose adaptation field is not bad.
behind : (bytes : List ℕ) (control : ℕ) → length bytes ≡ 188 → control < 4
    → ¬ (IsBadAdaptation control (length_at bytes)) →
    Behind bytes control (drop (place_for control (length_at bytes)) bytes)
behind bytes zero long small good = absurd (good (inl refl))
behind bytes (suc zero) long small good = record { adaptation = None; told = refl; parts = refl }
behind bytes (suc (suc zero)) long small good =
    let len : ℕ = length_at bytes in
    let full : len ≡ 183 = exact len good in
    let none : drop (5 + len) bytes ≡ [] = drop_all (5 + len) bytes (omega (arith, long, full)) in
    record {
      adaptation = Some (take len (drop 5 bytes));
      told = sym (ap (control_of (Some (take len (drop 5 bytes)))) none);
      parts = field_parts bytes len long refl (omega (arith, full));
    }
behind bytes (suc (suc (suc zero))) long small good =
    let len : ℕ = length_at bytes in
    let short : len ≤ 182 = most len good in
    let some : drop (5 + len) bytes ≡ get_or bytes (5 + len) 0 ∷ drop (5 + len + 1) bytes =
    drop_more bytes (5 + len) 0 (omega (arith, long, short)) in
    record {
      adaptation = Some (take len (drop 5 bytes));
      told = sym (ap (control_of (Some (take len (drop 5 bytes)))) some);
      parts = field_parts bytes len long refl (omega (arith, short));
    }
behind bytes (suc (suc (suc (suc n)))) long small good = absurd (omega arith)

-- What was read off is spelled by the bytes.
pub spelled : (bytes : List ℕ) (f : Fields) → length bytes ≡ 188 → ((k : ℕ) → get_or bytes k 0 < 256) → IsRead bytes f
    → Spells f bytes
unfolding packet_bytes
spelled bytes f long small r =
    let bits : List Bool = bits_of bytes in
    let size : length bits ≡ 8 * 188 = length-bits_of bytes ∙ ap (λ (n : ℕ). 8 * n) long in
    let header : List Bool = part bits 0 32 in
    let wide : length header ≡ 32 = length-part bits 0 32 (omega (arith, size)) in
    let payload : List ℕ = drop (place_for (control_at bytes) (length_at bytes)) bytes in
    let fields : Fields = fields_of header payload in
    let priority : Bool = number_at header 10 1 == 1 in
    let sync : number_at header 0 8 ≡ 0x47 = front_number bits 0 8 (omega arith)
    ∙ number_at-bits_of bytes 0 (omega (arith, long))
    ∙ ap (λ (n : ℕ). n % 2 ^ 8) r.sync in
    let rest : Behind bytes (control_at bytes) payload =
    behind bytes (control_at bytes) long (number_at-lt bits 26 2 (omega (arith, size))) r.adaptation in
    let whole : header ≡ header_bits fields priority (control_of rest.adaptation payload) =
    header_is header payload wide sync ∙ ap (header_bits fields priority) (front_number bits 26 2 (omega arith)
    ∙ rest.told) in
    let front : take 4 bytes ≡ bytes_of (header_bits fields priority (control_of rest.adaptation payload)) =
    sym (bytes_of-bits_of (take 4 bytes) (small_take 4 bytes small))
    ∙ ap bytes_of (sym (part-bits_of bytes 0 4 (omega (arith, long))) ∙ whole) in
    subst (λ (g : Fields). Spells g bytes) (sym r.fields) (record {
      fits = record {
        pid = number_at-lt header 11 13 (omega (arith, wide));
        scrambling = number_at-lt header 24 2 (omega (arith, wide));
        counter = number_at-lt header 28 4 (omega (arith, wide));
      };
      priority = priority;
      adaptation = rest.adaptation;
      whole = long;
      spelled = sym (take-append-drop 4 bytes) ∙ ap (λ (xs : List ℕ). xs ++ drop 4 bytes) front
          ∙ ap (λ (xs : List ℕ). bytes_of (header_bits fields priority (control_of rest.adaptation payload)) ++ xs)
          rest.parts
          ∙ sym (append_assoc (bytes_of (header_bits fields priority (control_of rest.adaptation payload)))
          (adaptation_bytes rest.adaptation) payload);
    })

-- the same of an answer
pub ok_spelled : {E : Type 0} (bytes : List ℕ) (r : Result Fields E) → length bytes ≡ 188
    → ((k : ℕ) → get_or bytes k 0 < 256)
    → IfOk r (IsRead bytes) → IfOk r (λ f. Spells f bytes)
ok_spelled bytes (Ok f) long small h = spelled bytes f long small h
ok_spelled bytes (Err e) long small h = tt
