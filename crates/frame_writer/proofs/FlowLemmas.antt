-- When a flow is dry, and when it has its end.
use Rattle.std.proofs.Common.{◌≡◌, ◌+◌, ◌-◌, ◌<◌, ◌≤◌, ℕ, Bool, true, false, List, [], length, take, drop, refl, ap}
use Rattle.std.proofs.Common.{sym, subst, ◌∙◌, arith, le-leb, length-drop}
use Rattle.std.specs.Prelude.{nat_le, ◌||◌}
use Rattle.std.proofs.lemmas.Bool.{lt-leb}
use Rattle.std.proofs.lemmas.List.{take_all}
use Rattle.terms.specs.Bits.{bytes_of}
use Rattle.terms.proofs.BitLemmas.{length-bytes_of}
use Rattle.frame_writer.specs.Whole.{IsWhole}

pub dry_when : (dry : Bool) (ready : ℕ) (end : Bool) → (dry ≡ false → 184 ≤ ready) → false ≡ (nat_le 184 ready || end)
    → dry ≡ true
dry_when true ready end full e = refl
dry_when false ready end full e =
    absurd (let z : false ≡ true = subst (λ (b : Bool). false ≡ (b || end)) (le-leb 184 ready (full refl)) e in cc)

pub finished_when : (finished piper : Bool) → (finished ≡ false → piper ≡ false) → piper ≡ true → finished ≡ true
finished_when true piper shut e = refl
finished_when false piper shut e = absurd (let z : false ≡ piper = sym (shut refl) in cc)

-- If a unit is at hand and fewer bytes than it has wait, it is not the end.
pub going_when : (finished : Bool) (waiting : ℕ) (rest : List ℕ) → (finished ≡ true → rest ≡ []) → waiting < 184
    → true ≡ nat_le 184 (waiting + length rest) → finished ≡ false
going_when false waiting rest end few ready = refl
going_when true waiting rest end few ready =
    let none : length rest ≡ 0 = ap length (end refl) in
    absurd (let z : true ≡ false = ready ∙ lt-leb 184 (waiting + length rest) (omega (arith, none, few)) in cc)

-- the bytes from a place on
pub rest_from : (bytes : List ℕ) (at : ℕ) → take (length bytes - at) (drop at bytes) ≡ drop at bytes
rest_from bytes at = take_all (length bytes - at) (drop at bytes) (let d = length-drop at bytes in omega arith)

pub whole_room : (bits : List Bool) → IsWhole bits → length (bytes_of bits) ≤ 8202
whole_room bits whole = omega (arith, length-bytes_of bits, whole.len, whole.room)
