-- What is due by fewer bytes than were taken was given.
use Rattle.std.proofs.Common.{◌≡◌, ℕ, ◌+◌, ◌-◌, ◌<◌, false, List, [], ◌++◌, length, take, ap, sym, subst, ◌∙◌, arith}
use Rattle.std.proofs.Common.{length-append, append_assoc, append-nil}
use Rattle.std.specs.Prelude.{nat_lt}
use Rattle.std.proofs.lemmas.Bool.{ltb-true, ltb-false}
use Rattle.std.proofs.lemmas.List.{take-append-le, take-take, length-take}
use Rattle.std.proofs.Math.Seq.{take-append-add}
use Rattle.terms.proofs.CaseLemmas.{bool_cases}
use Rattle.plp_config.specs.declared.config.Config.{Config}
use Rattle.terms.specs.Lists.{IsPrefix}
use Rattle.modulator.specs.StandsFor.{bytes_due}

abbrev pub AreGiven : Config → List ℕ → List ℕ → Type 0
AreGiven c bytes taken = (k : ℕ) → k < length bytes → IsPrefix (bytes_due c false (take k bytes)) taken

pub given_fed : (c : Config) (bytes piece taken : List ℕ) (count : ℕ) → AreGiven c bytes taken
    → ((k : ℕ) → k < count → bytes_due c false (bytes ++ take k piece) ≡ taken)
    → AreGiven c (bytes ++ take count piece) taken
given_fed c bytes piece taken count was first k less =
    bool_cases (nat_lt k (length bytes))
    (λ early.
    let l = ltb-true k (length bytes) early in
    subst (λ (xs : List ℕ). IsPrefix (bytes_due c false xs) taken)
    (sym (take-append-le k bytes (take count piece) (omega (arith, l)))) (was k l))
    (λ late.
    let l = ltb-false k (length bytes) late in
    let j : ℕ = k - length bytes in
    let sum : k ≡ length bytes + j = omega (arith, l) in
    let inside : j < count = omega (arith, less, length-append bytes (take count piece), length-take count piece, l) in
    let at : take k (bytes ++ take count piece) ≡ bytes ++ take j piece =
    ap (λ (n : ℕ). take n (bytes ++ take count piece)) sum ∙ take-append-add bytes (take count piece) j
    ∙ ap (λ (l : List ℕ). bytes ++ l) (take-take j count piece (omega (arith, inside))) in
    ([], sym (first j inside) ∙ ap (bytes_due c false) (sym at) ∙ sym (append-nil _)))

pub given_more : (c : Config) (bytes taken piece : List ℕ) → AreGiven c bytes taken → AreGiven c bytes (taken ++ piece)
given_more c bytes taken piece was k less = let w = was k less in
    (w.0 ++ piece, ap (λ (l : List ℕ). l ++ piece) w.1 ∙ append_assoc _ w.0 piece)
