-- Parts of lists that stand side by side, and the bits of a front of bytes.
use Rattle.std.specs.Prelude.{replicate}
use Rattle.std.proofs.Common.{◌≡◌, ℕ, zero, suc, ◌+◌, ◌^◌, ◌<◌, ◌≤◌, List, Bool, false, ◌++◌, length, take, drop}
use Rattle.std.proofs.Common.{refl, ap, sym, ◌∙◌, arith}
use Rattle.std.proofs.lemmas.List.{drop-drop, length-append}
use Rattle.std.proofs.Math.Seq.{take-add, drop-append_seam, take-length}
use Rattle.terms.specs.Bits.{field, number_of}
use Rattle.terms.proofs.BitLemmas.{length-field, number_of-field, part-append}

-- two parts that stand side by side are one
pub part-add : {X : Type 0} (xs : List X) (at a b : ℕ) → take (a + b) (drop at xs) ≡ take a (drop at xs)
    ++ take b (drop (at + a) xs)
part-add xs at a b = take-add a b (drop at xs) ∙ ap (λ (ys : List _). take a (drop at xs) ++ take b ys)
    (drop-drop a at xs)

-- what stands behind a front is a part of the whole
pub part-middle : {X : Type 0} (front mid more : List X) (at width : ℕ) → length front ≡ at → length mid ≡ width
    → take width (drop at ((front ++ mid) ++ more)) ≡ mid
part-middle front mid more at width here wide =
    let inside : at + width ≤ length (front ++ mid) = simp length-append (omega (arith, here, wide)) in
    part-append (front ++ mid) more at width inside
    ∙ ap (λ (k : ℕ). take width (drop k (front ++ mid))) (sym here)
    ∙ ap (take width) (drop-append_seam front mid)
    ∙ ap (λ (k : ℕ). take k mid) (sym wide)
    ∙ take-length mid

-- a field behind a front holds its number
pub number-middle : (front more : List Bool) (at width n : ℕ) → length front ≡ at → n < 2 ^ width
    → number_of (take width (drop at ((front ++ field width n) ++ more))) ≡ n
number-middle front more at width n here fits =
    ap number_of (part-middle front (field width n) more at width here (length-field width n))
    ∙ number_of-field width n fits

pub number_of-zeros : (n : ℕ) → number_of (replicate n false) ≡ 0
number_of-zeros zero = refl
number_of-zeros (suc n) = omega (arith, number_of-zeros n)
