-- The packets of a file of which some were taken.
use Rattle.std.proofs.Common.{◌≡◌, ◌≢◌, ℕ, zero, suc, ◌+◌, ◌*◌, ◌<◌, ◌≤◌, Bool, true, false, List, [], ◌∷◌, ◌++◌}
use Rattle.std.proofs.Common.{length, take}
use Rattle.std.proofs.Common.{drop, refl, ap, sym, ◌∙◌, arith, append_assoc, append-nil, length-append, inl, inr}
use Rattle.std.specs.Prelude.{slice_index, nat_le, ◌==◌, ◌⊎◌}
use Rattle.std.proofs.lemmas.Bool.{cases_Bool, ne_eqb, and_right}
use Rattle.std.proofs.lemmas.List.{take_at, drop_at, length-drop, length-take-le, drop-drop, get_or_append_left}
use Rattle.ts_packet.specs.TsFile.{begins_with_packet, packets_up_to, packets_in, left_in, joined, HasBad, ArePackets}
use Rattle.ts_packet.specs.declared.sizes.TheConstants.{SIZE, SYNC}

le_true : (a b : ℕ) → a ≤ b → nat_le a b ≡ true
le_true a b le = grind (arith)

le_false : (a b : ℕ) → b < a → nat_le a b ≡ false
le_false a b lt = grind (arith)

pub no_short : (bytes : List ℕ) → length bytes < SIZE → begins_with_packet bytes ≡ false
no_short bytes lt = rw (le_false SIZE (length bytes) lt) refl

is_packet : (packet rest : List ℕ) → length packet ≡ SIZE → slice_index packet 0 ≡ SYNC
    → begins_with_packet (packet ++ rest)
    ≡ true
is_packet packet rest long sync =
    let a : nat_le SIZE (length (packet ++ rest)) ≡ true =
    le_true SIZE (length (packet ++ rest)) (omega (arith, length-append packet rest)) in
    let b : slice_index (packet ++ rest) 0 ≡ SYNC = get_or_append_left packet rest 0 0 (omega arith) ∙ sync in
    rw (a, b) refl

-- no more than the length are needed
fuel : (n m : ℕ) (bytes : List ℕ) → length bytes ≤ n → length bytes ≤ m → packets_up_to n bytes ≡ packets_up_to m bytes
unfolding packets_up_to
fuel zero zero bytes a b = refl
fuel zero (suc m) bytes a b = rw (no_short bytes (omega arith)) refl
fuel (suc n) zero bytes a b = rw (no_short bytes (omega arith)) refl
fuel (suc n) (suc m) bytes a b =
    elim (cases_Bool (begins_with_packet bytes)) [
      | inl yes_ ↦
          let l = length-drop SIZE bytes in
          rw yes_ (ap (λ (ps : List (List ℕ)). take SIZE bytes ∷ ps) (fuel n m (drop SIZE bytes) (omega arith)
          (omega arith)))
      | inr no_ ↦ rw no_ refl
    ]

one_packet : (packet rest : List ℕ) (n : ℕ) → length packet ≡ SIZE → slice_index packet 0 ≡ SYNC
    → packets_up_to (suc n) (packet ++ rest) ≡ packet ∷ packets_up_to n rest
unfolding packets_up_to
one_packet packet rest n long sync =
    rw (is_packet packet rest long sync, take_at packet rest SIZE long, drop_at packet rest SIZE long) refl

packets_cons : (packet rest : List ℕ) → length packet ≡ SIZE → slice_index packet 0 ≡ SYNC → packets_in (packet ++ rest)
    ≡ packet ∷ packets_in rest
packets_cons packet rest long sync =
    let size : length (packet ++ rest) ≡ suc (187 + length rest) = omega (arith, length-append packet rest) in
    ap (λ (n : ℕ). packets_up_to n (packet ++ rest)) size ∙ one_packet packet rest (187 + length rest) long sync
    ∙ ap (λ (ps : List (List ℕ)). packet ∷ ps) (fuel (187 + length rest) (length rest) rest (omega arith) (omega arith))

pub packets_joined : (packets : List (List ℕ)) (rest : List ℕ) → ArePackets packets
    → packets_in (joined packets ++ rest)
    ≡ packets ++ packets_in rest
packets_joined [] rest each = refl
packets_joined (p ∷ packets) rest each =
    ap packets_in (append_assoc p (joined packets) rest) ∙ packets_cons p (joined packets ++ rest) each.0.0 each.0.1
    ∙ ap (λ (ps : List (List ℕ)). p ∷ ps) (packets_joined packets rest each.1)

pub joined_length : (packets : List (List ℕ)) → ArePackets packets → length (joined packets) ≡ SIZE * length packets
joined_length [] each = refl
joined_length (p ∷ packets) each = omega (
  arith,
  length-append p (joined packets),
  joined_length packets
      each.1,
  each.0.0,
)

pub left_joined : (packets : List (List ℕ)) (rest : List ℕ) → ArePackets packets
    → left_in (joined packets ++ rest) ≡ left_in rest
left_joined packets rest each =
    let n : SIZE * length (packets_in (joined packets ++ rest)) ≡ length (joined packets) + SIZE * length
    (packets_in rest) =
    let e = ap length (packets_joined packets rest each) in
    omega (arith, e, length-append packets (packets_in rest), joined_length packets each) in
    ap (λ (k : ℕ). drop k (joined packets ++ rest)) n
    ∙ sym (drop-drop (SIZE * length (packets_in rest)) (length (joined packets)) (joined packets ++ rest))
    ∙ ap (drop (SIZE * length (packets_in rest))) (drop_at (joined packets) rest (length (joined packets)) refl)

none_up_to : (n : ℕ) (bytes : List ℕ) → begins_with_packet bytes ≡ false → packets_up_to n bytes ≡ []
unfolding packets_up_to
none_up_to zero bytes off = refl
none_up_to (suc n) bytes off = rw off refl

pub packets_none : (bytes : List ℕ) → begins_with_packet bytes ≡ false → packets_in bytes ≡ []
packets_none bytes off = none_up_to (length bytes) bytes off

pub nothing_in : packets_in [] ≡ []
unfolding packets_up_to
nothing_in = refl

pub nothing_left : left_in [] ≡ []
unfolding packets_up_to
nothing_left = refl

pub packets_push : (packets : List (List ℕ)) (p : List ℕ) → ArePackets packets → length p ≡ SIZE
    → slice_index p 0 ≡ SYNC
    → ArePackets (packets ++ p ∷ [])
packets_push [] p each long sync = ((long, sync), tt)
packets_push (q ∷ packets) p each long sync = (each.0, packets_push packets p each.1 long sync)

-- These packets of a file were taken, and this is left of it: nothing, if it ended.
pub record IsRead (file : List ℕ) (packets : List (List ℕ)) (ended : Bool) (left : List ℕ) : Type 0 where
  pub parts : file ≡ joined packets ++ left
  pub each : ArePackets packets
  pub end : ended ≡ true → left ≡ []

-- what was taken comes first
pub taken_first : (file : List ℕ) (packets : List (List ℕ)) (ended : Bool) (left : List ℕ)
    → IsRead file packets ended left
    → packets_in file ≡ packets ++ packets_in left
taken_first file packets ended left r = ap packets_in r.parts ∙ packets_joined packets left r.each

pub taken_few : (file : List ℕ) (packets : List (List ℕ)) (ended : Bool) (left : List ℕ)
    → IsRead file packets ended left
    → length packets ≤ length (packets_in file)
taken_few file packets ended left r = let e = ap length (taken_first file packets ended left r) in
    omega (arith, e, length-append packets (packets_in left))

pub taken_all : (file : List ℕ) (packets : List (List ℕ)) (left : List ℕ) → IsRead file packets true left
    → packets_in file ≡ packets
taken_all file packets left r =
    taken_first file packets true left r ∙ ap (λ (l : List ℕ). packets ++ packets_in l) (r.end refl)
    ∙ ap (λ (ps : List (List ℕ)). packets ++ ps) nothing_in ∙ append-nil packets

pub none_bad : (file : List ℕ) (packets : List (List ℕ)) (left : List ℕ) → IsRead file packets true left
    → ¬ (HasBad file)
none_bad file packets left r bad =
    bad (ap left_in r.parts ∙ left_joined packets left r.each ∙ ap left_in (r.end refl) ∙ nothing_left)

-- A bad packet is not wanted if all that was wanted was there.
pub not_wanted : (file : List ℕ) (packets : List (List ℕ)) (ended : Bool) (left : List ℕ) (slots : ℕ)
    → IsRead file packets ended left → (ended ≡ false → slots ≤ length packets)
    → ¬ (HasBad file × length (packets_in file) < slots)
not_wanted file packets true left slots r enough w = none_bad file packets left r w.0
not_wanted file packets false left slots r enough w =
    absurd (omega (arith, enough refl, w.1, taken_few file packets false left r))

-- a packet is bad, the next one
pub record NextIsBad (file : List ℕ) (packets : List (List ℕ)) : Type 0 where
  pub number : length (packets_in file) ≡ length packets
  pub bad : HasBad file

pub next_bad : (file : List ℕ) (packets : List (List ℕ)) (ended : Bool) (left : List ℕ) → IsRead file packets ended left
    → left ≢ [] → begins_with_packet left ≡ false → NextIsBad file packets
next_bad file packets ended left r some off =
    let none = packets_none left off in
    record {
      number = ap length (taken_first file packets ended left r ∙ ap (λ (ps : List (List ℕ)). packets ++ ps) none
          ∙ append-nil packets);
      bad = λ e. some (sym (ap (λ (ps : List (List ℕ)). drop (SIZE * length ps) left) none)
          ∙ sym (left_joined packets left r.each) ∙ sym (ap left_in r.parts) ∙ e);
    }

-- a packet is bad that does not begin with the sync byte, or is cut short
pub no_sync : (bytes : List ℕ) → slice_index bytes 0 ≢ SYNC → begins_with_packet bytes ≡ false
no_sync bytes differ = and_right (nat_le SIZE (length bytes)) (slice_index bytes 0 == SYNC)
    (ne_eqb (slice_index bytes 0) SYNC differ)

first_byte : (tail more : List ℕ) → tail ≢ [] → slice_index (tail ++ more) 0 ≡ slice_index tail 0
first_byte [] more some = absurd (some refl)
first_byte (x ∷ tail) more some = refl

-- what is no packet for its first byte, or since nothing follows, is none
pub still_bad : (tail more : List ℕ) (ended : Bool) → tail ≢ [] → begins_with_packet tail ≡ false
    → (slice_index tail 0 ≢ SYNC)
    ⊎ (ended ≡ true) → (ended ≡ true → more ≡ []) → begins_with_packet (tail ++ more) ≡ false
still_bad tail more ended some off (inl sync) end = no_sync (tail ++ more) (λ e. sync (sym (first_byte tail more some)
    ∙ e))
still_bad tail more ended some off (inr on) end = ap (λ (l : List ℕ). begins_with_packet (tail ++ l)) (end on)
    ∙ ap begins_with_packet (append-nil tail) ∙ off

-- the first packet of enough bytes
pub some_taken : (bytes : List ℕ) → SIZE ≤ length bytes → take SIZE bytes ≢ []
some_taken bytes long e = let n = ap length e in let m = length-take-le SIZE bytes long in omega (arith, n, m)
