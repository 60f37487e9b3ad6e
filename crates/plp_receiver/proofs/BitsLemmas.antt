-- The CRC_32 behind L1-post, bit by bit.
use Rattle.std.proofs.Common.{◌≡◌, ℕ, ◌+◌, ◌-◌, ◌≤◌, Bool, true, List, ◌++◌, length, take, drop, ap, sym, subst, ◌∙◌}
use Rattle.std.proofs.Common.{arith}
use Rattle.std.specs.Prelude.{Result, Ok, Err, OnOk, IfErr, is_ok}
use Rattle.std.specs.Bool.{beq}
use Rattle.std.specs.Cmp.{booleans_Decides}
use Rattle.std.specs.Cmp.Lexicographic.{pointwise, pointwise_decides}
use Rattle.std.proofs.lemmas.List.{take-append-drop, take_all, length-drop}
use Rattle.terms.specs.Bits.{field}
use Rattle.terms.proofs.BitLemmas.{field-number_at}
use Rattle.terms.proofs.CaseLemmas.{bool_cases}
use Rattle.l1_signal.specs.CrcField.{post_front, EndsInCrc, RefusesPost}
use Rattle.l1_signal.specs.Laws.{crc_behind, EndsInItsCrc}
use Rattle.l1_signal.specs.declared.fault.L1Fault.{L1Fault}
use Rattle.l1_signal.specs.declared.fault.L1Fault.TheVariants.{Short, Crc, Unsupported, Size, OutOfMemory}

abbrev pub crc_whole : List Bool → List Bool
crc_whole post = crc_behind true (post_front post)

-- L1-post that ends with its CRC_32 is what stands before it, and this
ends_whole : (post : List Bool) → EndsInCrc post → post ≡ crc_whole post
ends_whole post e =
    let at : ℕ = length post - 32 in
    let l = e.0 in
    let back : List Bool = drop at post in
    let size : length back ≤ 32 = omega (arith, length-drop at post, l) in
    let inside : at + 32 ≤ length post = omega (arith, l) in
    sym (take-append-drop at post)
    ∙ ap (λ (b : List Bool). take at post ++ b) (sym (take_all 32 back size) ∙ sym (field-number_at post at 32 inside)
    ∙ ap (field 32) e.1)

decides_whole : (post : List Bool) → (pointwise beq post (crc_whole post) ≡ true → post ≡ crc_whole post)
    × (post ≡ crc_whole post → pointwise beq post (crc_whole post) ≡ true)
decides_whole post = pointwise_decides booleans_Decides post (crc_whole post)

pub crc_told : EndsInItsCrc → (post : List Bool) (r : Result (Unit {0}) L1Fault) → OnOk r (EndsInCrc post)
    → IfErr r (RefusesPost post)
    → is_ok r ≡ pointwise beq post (crc_whole post)
crc_told own post (Ok u) ok err = sym ((decides_whole post).1 (ends_whole post ok))
crc_told own post (Err fault) ok err =
    bool_cases (pointwise beq post (crc_whole post))
    (λ e. absurd (no fault err (subst EndsInCrc (sym ((decides_whole post).0 e)) (own (post_front post))))) sym
  where
    no : (fault : L1Fault) → RefusesPost post fault → ¬ (EndsInCrc post)
    no (Short left) r e = let a = r.0 in let b = e.0 in omega (arith, a, b)
    no (Crc read counted) r e = r.3 (r.1 ∙ e.1 ∙ sym r.2)
    no (Unsupported n) r e = r
    no (Size told needed) r e = r
    no OutOfMemory r e = r
