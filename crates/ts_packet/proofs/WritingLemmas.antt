-- How a packet is put together.
use Rattle.std.proofs.Common.{◌≡◌, ℕ, zero, suc, ◌+◌, ◌-◌, ◌*◌, ◌/◌, ◌%◌, ◌^◌, ◌<◌, ◌≤◌, Bool, true, false, List, []}
use Rattle.std.proofs.Common.{◌∷◌, ◌++◌}
use Rattle.std.proofs.Common.{length, take, drop, set, get_or, refl, ap, sym, subst, ◌∙◌, arith, append_assoc}
use Rattle.std.proofs.Common.{append-nil}
use Rattle.std.proofs.Common.{length-append}
use Rattle.std.specs.Prelude.{bit_or, Option, Some, None, is_some, replicate}
use Rattle.std.proofs.lemmas.Nat.{or_shifted, div-add-mod'}
use Rattle.std.proofs.lemmas.List.{drop_all, drop_at, drop-drop, take_at, length-drop, length-take, length-replicate}
use Rattle.std.specs.Int.{w32, to_be_bytes}
use mir.Val.{bool_byte}
use borrow.Rule.Slice.PartMut.{put_mid}
use Rattle.terms.specs.Bits.{field, number_of, number_at, bytes_of, bytes_for}
use Rattle.terms.proofs.BitLemmas.{length-field, number_of-append, number_of-field, field-number_of, number_of-part}
use Rattle.terms.proofs.BitLemmas.{bytes_of_fields, length-bytes_of}
use Rattle.ts_packet.specs.declared.sizes.TheConstants.{SYNC}
use Rattle.ts_packet.specs.TransportPacket.{Fields, flag, header_bits, control_of, adaptation_bytes, packet_bytes}
use Rattle.ts_packet.specs.TransportPacket.{Spells}
use Rattle.ts_packet.specs.Written.{area_of, stuffing, written_fields, written_bytes}
use Rattle.ts_packet.specs.Null.{is_null, null_packet}
use Rattle.ts_packet.specs.Laws.{WrittenSpells, CanonicalNull}

-- numbers that share no bit
or_apart : (a b k : ℕ) → b < 2 ^ k → a % 2 ^ k ≡ 0 → bit_or a b ≡ a + b
or_apart a b k low high =
    let whole : a / 2 ^ k * 2 ^ k ≡ a = omega (arith, div-add-mod' a (2 ^ k), high) in
    rw whole at (or_shifted (a / 2 ^ k) k b low)

-- the header's fields, each at its place
fields_joined : (starts pid control counter : ℕ) → starts < 2 → pid < 2 ^ 13 → control < 4 → counter < 16 →
    bit_or (bit_or (bit_or (bit_or 1191182336 (starts * 4194304 % 4294967296)) (pid * 256 % 4294967296))
    (control * 16 % 4294967296)) counter
    ≡ 1191182336 + starts * 4194304 + pid * 256 + control * 16 + counter
fields_joined starts pid control counter a b c d =
    let first : starts * 4194304 % 4294967296 ≡ starts * 4194304 = omega arith in
    let second : pid * 256 % 4294967296 ≡ pid * 256 = omega arith in
    let third : control * 16 % 4294967296 ≡ control * 16 = omega arith in
    let one : bit_or 1191182336 (starts * 4194304) ≡ 1191182336 + starts * 4194304 =
    or_apart 1191182336 (starts * 4194304) 24 (omega arith) refl in
    let two : bit_or (1191182336 + starts * 4194304) (pid * 256) ≡ 1191182336 + starts * 4194304 + pid * 256 =
    or_apart (1191182336 + starts * 4194304) (pid * 256) 22 (omega arith) (omega arith) in
    let three : bit_or (1191182336 + starts * 4194304 + pid * 256) (control * 16) ≡ 1191182336 + starts
    * 4194304 + pid * 256
    + control * 16 =
    or_apart (1191182336 + starts * 4194304 + pid * 256) (control * 16) 8 (omega arith) (omega arith) in
    let four : bit_or (1191182336 + starts * 4194304 + pid * 256 + control * 16) counter ≡ 1191182336 + starts
    * 4194304 + pid
    * 256 + control * 16 + counter =
    or_apart (1191182336 + starts * 4194304 + pid * 256 + control * 16) counter 4 (omega arith) (omega arith) in
    rw (first, second, third, one, two, three, four) refl

-- a field behind bits
push_field : (bits : List Bool) (width n : ℕ) → n < 2 ^ width → number_of (bits ++ field width n) ≡ number_of
    bits * 2 ^ width + n
push_field bits width n small = number_of-append bits (field width n)
    ∙ rw (length-field width n, number_of-field width n small) refl

-- a field of one bit behind bits
push_flag : (bits : List Bool) (b : Bool) → number_of (bits ++ flag b) ≡ number_of bits * 2 ^ 1 + bool_byte b
push_flag bits true = number_of-append bits (flag true)
push_flag bits false = number_of-append bits (flag false)

-- the number of a header without error, priority and scrambling
written_header : (pid counter control : ℕ) (pointer : Option ℕ) → pid < 2 ^ 13 → counter < 2 ^ 4 → control < 2 ^ 2 →
    number_of (header_bits (written_fields pid counter pointer []) false control) ≡ 1191182336 + bool_byte
    (is_some pointer)
    * 4194304 + pid * 256 + control * 16 + counter
written_header pid counter control pointer a b c =
    let sync : List Bool = field 8 SYNC in
    let flags : List Bool = sync ++ flag false ++ flag (is_some pointer) ++ flag false in
    let first : number_of sync ≡ SYNC = number_of-field 8 SYNC (omega arith) in
    let error : number_of (sync ++ flag false) ≡ number_of sync * 2 ^ 1 + 0 = push_flag sync false in
    let starts : number_of (sync ++ flag false ++ flag (is_some pointer)) ≡ number_of (sync ++ flag false) * 2 ^ 1
    + bool_byte (is_some pointer) =
    push_flag (sync ++ flag false) (is_some pointer) in
    let priority : number_of flags ≡ number_of (sync ++ flag false ++ flag (is_some pointer)) * 2 ^ 1 + 0 =
    push_flag (sync ++ flag false ++ flag (is_some pointer)) false in
    let to_pid = push_field flags 13 pid a in
    let to_scrambling = push_field (flags ++ field 13 pid) 2 0 (omega arith) in
    let to_control = push_field (flags ++ field 13 pid ++ field 2 0) 2 control c in
    let to_counter = push_field (flags ++ field 13 pid ++ field 2 0 ++ field 2 control) 4 counter b in
    omega arith

-- a header has 32 bits
pub length-header_bits : (f : Fields) (priority : Bool) (control : ℕ) → length (header_bits f priority control) ≡ 32
length-header_bits f priority control = simp (length-append, length-field) refl

-- a bit as a number
bit_small : (b : Bool) → bool_byte b < 2
bit_small true = omega arith
bit_small false = omega arith

-- the header's bits, as the code joins them
pub header_joined : (pid counter control starts p q : ℕ) (pointer : Option ℕ) → pid < 2 ^ 13 → counter < 2 ^ 4
    → control < 2 ^ 2 →
    starts ≡ bool_byte (is_some pointer) → p ≡ pid → q ≡ counter →
    field 32
    (bit_or (bit_or (bit_or (bit_or 1191182336 (starts * 4194304 % 4294967296)) (p * 256 % 4294967296))
    (control * 16 % 4294967296)) q)
    ≡ header_bits (written_fields pid counter pointer []) false control
header_joined pid counter control starts p q pointer a b c e f g =
    let bits : List Bool = header_bits (written_fields pid counter pointer []) false control in
    let wide : length bits ≡ 32 = length-header_bits (written_fields pid counter pointer []) false control in
    let joined = fields_joined starts p control q (omega (arith, bit_small (is_some pointer))) (omega arith)
    (omega arith)
    (omega arith) in
    let number : 1191182336 + starts * 4194304 + p * 256 + control * 16 + q ≡ number_of bits =
    rw (e, f, g) (sym (written_header pid counter control pointer a b c)) in
    ap (λ (n : ℕ). field 32 n) (joined ∙ number) ∙ ap (λ (w : ℕ). field w (number_of bits)) (sym wide)
    ∙ field-number_of bits

-- a byte of a number of 32 bits
byte_field : (n k : ℕ) → n < 2 ^ 32 → k < 4 → get_or (to_be_bytes w32 n) k 0 ≡ number_at (field 32 n) (8 * k) 8
byte_field n zero small h =
    sym (number_of-part (field 32 n) 0 8 (omega (arith, length-field 32 n))
    ∙ rw (length-field 32 n, number_of-field 32 n small) refl)
byte_field n (suc zero) small h =
    sym (number_of-part (field 32 n) 8 8 (omega (arith, length-field 32 n))
    ∙ rw (length-field 32 n, number_of-field 32 n small) refl)
byte_field n (suc (suc zero)) small h =
    sym (number_of-part (field 32 n) 16 8 (omega (arith, length-field 32 n))
    ∙ rw (length-field 32 n, number_of-field 32 n small) refl)
byte_field n (suc (suc (suc zero))) small h =
    sym (number_of-part (field 32 n) 24 8 (omega (arith, length-field 32 n))
    ∙ rw (length-field 32 n, number_of-field 32 n small)
    (omega arith))
byte_field n (suc (suc (suc (suc k)))) small h = absurd (omega arith)

-- the bytes of a number of 32 bits, the highest first
pub big_bytes : (n : ℕ) → n < 2 ^ 32 → to_be_bytes w32 n ≡ bytes_of (field 32 n)
big_bytes n small = bytes_of_fields (field 32 n) (to_be_bytes w32 n) (length-field 32 n) (λ k h. byte_field n k small h)

-- two parts of a list that was written to
two_parts : (at size : ℕ) (front back old : List ℕ) → length front ≡ at → length old ≤ at + size →
    put_mid at size (front ++ drop at old) back ≡ front ++ back
two_parts at size front back old long short =
    let first : take at (front ++ drop at old) ≡ front = take_at front (drop at old) at long in
    let rest : drop at (front ++ drop at old) ≡ drop at old = drop_at front (drop at old) at long in
    let none : drop size (drop at old) ≡ [] = drop_all size (drop at old) (simp length-drop (omega arith)) in
    rw (first, rest, none, append-nil) refl

-- the header stays as space and payload area are written behind it
pub three_parts : (at size : ℕ) (space area old : List ℕ) → 4 ≤ length old → length space ≡ at - 4 → 4 ≤ at
    → length old ≤ at + size →
    put_mid at size (put_mid 4 (at - 4) old space) area ≡ take 4 old ++ space ++ area
three_parts at size space area old four fills after short =
    let rest : drop (at - 4) (drop 4 old) ≡ drop at old = drop-drop (at - 4) 4 old
    ∙ ap (λ (n : ℕ). drop n old) (omega arith) in
    let filled : put_mid 4 (at - 4) old space ≡ (take 4 old ++ space) ++ drop at old =
    rw rest (sym (append_assoc (take 4 old) space (drop at old))) in
    let long : length (take 4 old ++ space) ≡ at = simp (length-append, length-take) (omega (arith, four, fills)) in
    ap (λ (xs : List ℕ). put_mid at size xs area) filled ∙ two_parts at size (take 4 old ++ space) area old long short

-- the pointer_field in front of the payload
pub pointer_first : (area rest payload : List ℕ) (pointer : ℕ) → length area ≡ suc (length payload) → rest ≡ payload →
    put_mid 1 (length (set area 0 pointer) - 1) (set area 0 pointer) rest ≡ pointer ∷ payload
pointer_first [] rest payload pointer long e = absurd (omega arith)
pointer_first (x ∷ area) rest payload pointer long e =
    let none : drop (length (x ∷ area) - 1) area ≡ [] = drop_all (length (x ∷ area) - 1) area (omega arith) in
    rw (none, append-nil, e) refl

-- how long a payload area is
pub length-area_of : (pointer : Option ℕ) (payload : List ℕ) → length (area_of pointer payload) ≡ length payload
    + bool_byte (is_some pointer)
length-area_of None payload = omega arith
length-area_of (Some p) payload = omega arith

-- an adaptation field fills its space
pub length-stuffing : (n : ℕ) → length (adaptation_bytes (stuffing n)) ≡ n
length-stuffing zero = refl
length-stuffing (suc zero) = refl
length-stuffing (suc (suc n)) = omega (arith, length-replicate {A = ℕ} n 0xFF)

-- with space there is an adaptation field in front of the payload
pub control_filled : (n : ℕ) (area : List ℕ) → 0 < n → 1 ≤ length area → control_of (stuffing n) area ≡ 3
control_filled zero area some more = absurd (omega arith)
control_filled (suc zero) [] some more = absurd (omega arith)
control_filled (suc zero) (x ∷ area) some more = refl
control_filled (suc (suc n)) [] some more = absurd (omega arith)
control_filled (suc (suc n)) (x ∷ area) some more = refl

-- without space there is no adaptation field
pub control_full : (n : ℕ) (area : List ℕ) → n ≡ 0 → control_of (stuffing n) area ≡ 1
control_full n area none = ap (λ (k : ℕ). control_of (stuffing k) area) none

-- header, space and payload area are the packet
pub written : (pid counter control at : ℕ) (pointer : Option ℕ) (payload header : List ℕ) →
    header ≡ bytes_of (header_bits (written_fields pid counter pointer []) false control)
    → at ≡ 184 - length (area_of pointer payload) →
    control ≡ control_of (stuffing at) (area_of pointer payload) →
    header ++ adaptation_bytes (stuffing at) ++ area_of pointer payload ≡ written_bytes pid counter pointer payload
unfolding written_bytes packet_bytes
written pid counter control at pointer payload header e f g = rw (e, g, f) refl

-- What is written spells what was to be written.
pub written_spells : WrittenSpells
unfolding written_bytes packet_bytes
written_spells pid counter pointer payload a b some room =
    let fields : Fields = written_fields pid counter pointer payload in
    let area : List ℕ = area_of pointer payload in
    let space : ℕ = 184 - length area in
    let header : List ℕ = bytes_of (header_bits fields false (control_of (stuffing space) area)) in
    let four : length header ≡ 4 =
    length-bytes_of _ ∙ ap bytes_for (length-header_bits fields false (control_of (stuffing space) area)) in
    record {
      fits = record { pid = a; scrambling = omega arith; counter = b };
      priority = false;
      adaptation = stuffing space;
      whole = length-append (header ++ adaptation_bytes (stuffing space)) area
          ∙ omega (arith, length-append header (adaptation_bytes (stuffing space)), four, length-stuffing space);
      spelled = refl;
    }

-- the canonical null packet, computed
pub canonical_null : CanonicalNull
unfolding is_null field written_bytes packet_bytes
canonical_null = (
  refl,
  let same : written_bytes 0x1FFF 0 None (replicate 184 0xFF) ≡ null_packet = refl in
      subst (Spells (written_fields 0x1FFF 0 None (replicate 184 0xFF))) same
      (written_spells 0x1FFF 0 None (replicate 184 0xFF) (omega arith) (omega arith) (omega arith) (omega arith)),
)
