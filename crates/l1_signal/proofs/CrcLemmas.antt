-- CRC_32 behind what it is counted of.
use Rattle.std.proofs.Common.{◌≡◌, ℕ, ◌<◌, ◌≤◌, ◌^◌, ◌==◌, Bool, true, false, List, [], ◌++◌, length, take, drop, Ok}
use Rattle.std.proofs.Common.{Err, refl}
use Rattle.std.proofs.Common.{ap, sym, ◌∙◌, arith, length-append, subst}
use Rattle.std.specs.Prelude.{nat_lt, Result, OnOk, IfErr, IsOk, ◌≢◌, Some, None}
use Rattle.std.proofs.lemmas.Bool.{lt-ltb, le-ltb, ltb-false, eq-eqb, ne_eqb, eqb-true}
use Rattle.std.proofs.lemmas.List.{take-append-drop, length-take-le}
use Rattle.terms.specs.Bits.{field, number_of}
use Rattle.terms.proofs.BitLemmas.{length-field, take-field, drop-field, number_of-field, field-number}
use Rattle.bit_slice.specs.declared.sink.SinkFault.{SinkFault}
use Rattle.bit_slice.specs.declared.sink.SinkFault.TheVariants.{Full, OutOfMemory}
use Rattle.bit_slice.specs.Sink.{State, Puts, Stops, wrapped}
use Rattle.bit_slice.specs.Laws.{StopsRightly, IsCause}
use Rattle.l1_signal.specs.declared.fault.L1Fault.TheVariants.{Short, Crc}
use Rattle.l1_signal.specs.CrcField.{crc_read}

pub crc_short : (counted : ℕ) (bits : List Bool) (left : ℕ) → left ≡ length bits → left < 32 → crc_read counted bits
    ≡ Err (Short left)
unfolding crc_read
crc_short counted bits left e less = grind (arith, lt-ltb)

pub crc_differs : (counted : ℕ) (bits : List Bool) (read : ℕ) → 32 ≤ length bits → read ≡ number_of (take 32 bits)
    → read ≢ counted → crc_read counted bits ≡ Err (Crc read counted)
unfolding crc_read
crc_differs counted bits read long e ne = rw (le-ltb (length bits) 32 long, ← e, ne_eqb read counted ne) refl

pub crc_done : (counted : ℕ) (bits : List Bool) (read : ℕ) → 32 ≤ length bits → read ≡ number_of (take 32 bits)
    → read ≡ counted
    → crc_read counted bits ≡ Ok (counted, drop 32 bits)
unfolding crc_read
crc_done counted bits read long e same = rw (le-ltb (length bits) 32 long, ← e, eq-eqb read counted same) refl

pub crc_back : (counted : ℕ) (rest : List Bool) → counted < 2 ^ 32 → crc_read counted (field 32 counted ++ rest)
    ≡ Ok (counted, rest)
crc_back counted rest fits =
    let long : 32 ≤ length (field 32 counted ++ rest) =
    omega (arith, length-append (field 32 counted) rest, length-field 32 counted) in
    crc_done counted (field 32 counted ++ rest) counted long
    (sym (ap number_of (take-field 32 counted rest) ∙ number_of-field 32 counted fits)) refl
    ∙ ap (λ (l : List Bool). Ok (counted, l)) (drop-field 32 counted rest)

-- what is read behind it was spelled there
crc_tested : (counted : ℕ) (bits : List Bool) (cut same : Bool) (crc : ℕ) (rest : List Bool)
    → nat_lt (length bits) 32 ≡ cut
    → (number_of (take 32 bits) == counted) ≡ same → crc_read counted bits ≡ Ok (crc, rest) →
    bits ≡ field 32 counted ++ rest
unfolding crc_read
crc_tested counted bits true same crc rest c t e = absurd (let h = rw c at e in cc)
crc_tested counted bits false false crc rest c t e = absurd (let h = rw (c, t) at e in cc)
crc_tested counted bits false true crc rest c t e =
    let h = rw (c, t) at e in
    let p : (counted, drop 32 bits) ≡ (crc, rest) = cc in
    let size = length-take-le 32 bits (ltb-false (length bits) 32 c) in
    let number : number_of (take 32 bits) ≡ counted = eqb-true (number_of (take 32 bits)) counted t in
    let end : drop 32 bits ≡ rest = ap (λ (x : ℕ × List Bool). x.1) p in
    let front : field 32 counted ≡ take 32 bits = ap (field 32) (sym number) ∙ field-number 32 (take 32 bits) size in
    sym (take-append-drop 32 bits) ∙ rw (front, ← end) refl

pub crc_spelled : (counted : ℕ) (bits : List Bool) (crc : ℕ) (rest : List Bool) → crc_read counted bits ≡ Ok (crc, rest)
    → bits ≡ field 32 counted ++ rest
crc_spelled counted bits crc rest e = crc_tested counted bits _ _ crc rest refl refl e

-- a sink that counts takes all bits
never_stops : (n : ℕ) (t : State) (bits : List Bool) (e : SinkFault)
    → IsCause (wrapped (record { written = []; room = Some n; grows = false; below = [] })) (length bits) e
    → length bits ≤ n → ⊥
never_stops n t bits (Full need room) cause few = omega (arith, cause)
never_stops n t bits OutOfMemory cause few = absurd (let h : Some n ≡ None = cause.0 in cc)

pub counted_all : {T : Type 0} → StopsRightly → (n : ℕ) (s t : State) (bits : List Bool) (r : Result T SinkFault)
    → s ≡ wrapped (record { written = []; room = Some n; grows = false; below = [] }) → length bits ≤ n →
    OnOk r (Puts s t bits) → IfErr r (Stops s t bits) → t.written ≡ bits
counted_all rightly n s t bits (Ok x) is few ok err =
    let p : Puts (wrapped (record { written = []; room = Some n; grows = false; below = [] })) t bits =
    subst (λ (a : State). Puts a t bits) is ok in p.written
counted_all rightly n s t bits (Err e) is few ok err =
    let a = wrapped (record { written = []; room = Some n; grows = false; below = [] }) in
    let stopped : Stops a t bits e = subst (λ (b : State). Stops b t bits e) is err in
    absurd (never_stops n t bits e (rightly a t bits e stopped) few)

-- so it does not stop
pub takes_all : {T : Type 0} → StopsRightly → (n : ℕ) (s t : State) (bits : List Bool) (r : Result T SinkFault)
    → s ≡ wrapped (record { written = []; room = Some n; grows = false; below = [] }) → length bits ≤ n
    → IfErr r (Stops s t bits)
    → IsOk r
takes_all rightly n s t bits (Ok x) is few err = refl
takes_all rightly n s t bits (Err e) is few err =
    let a = wrapped (record { written = []; room = Some n; grows = false; below = [] }) in
    let stopped : Stops a t bits e = subst (λ (b : State). Stops b t bits e) is err in
    absurd (never_stops n t bits e (rightly a t bits e stopped) few)
