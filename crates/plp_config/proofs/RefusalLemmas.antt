-- A configuration has one refusal, and one want of capacity.
use Rattle.std.proofs.Common.{◌≡◌, ℕ, ◌<◌, Bool, true, false, Option, Some, None, length, refl, sym, ap, subst, ◌∙◌}
use Rattle.std.proofs.Common.{arith, inl}
use Rattle.std.proofs.Common.{inr}
use Rattle.std.specs.Prelude.{MatchBool, IsSomeAnd, nat_le, unwrap_or}
use Rattle.std.proofs.lemmas.Bool.{cases_lt}
use Rattle.plp_config.proofs.CapacityLemmas.{same_test}
use Rattle.plp_config.proofs.RuleLemmas.{same_rule}
use Rattle.plp_config.specs.Capacity.{Test, test_number, PlaceFits, is_of_plps, need_of, supply_of}
use Rattle.plp_config.specs.FirstFailure.{IsFirstFailure}
use Rattle.plp_config.specs.Laws.{OneRuleFails, RefusalFails, OneTestFails, LackFails}
use Rattle.plp_config.specs.Rules.{Rule, rule_number, PlaceHolds}

-- a number with which neither of two begins is the same
same_least : (a b : ℕ) → ¬ (a < b) → ¬ (b < a) → a ≡ b
same_least a b p q =
    elim (cases_lt a b) [
      | inl less ↦ absurd (p less)
      | inr more ↦ elim (cases_lt b a) [
        | inl less ↦ absurd (q less)
        | inr last ↦ omega arith
      ]
    ]

-- a demand has one first failure
same_failure : (holds : ℕ → Type 0) (count p q : ℕ) → IsFirstFailure holds count p → IsFirstFailure holds count q
    → p ≡ q
same_failure holds count p q first other =
    same_least p q (λ less. first.fails (other.before p less)) (λ less. other.fails (first.before q less))

same_place : (late : Bool) (holds : ℕ → Type 0) (count : ℕ) (x y : Option ℕ)
    → MatchBool late (IsSomeAnd x (IsFirstFailure holds count)) (x ≡ None)
    → MatchBool late (IsSomeAnd y (IsFirstFailure holds count)) (y ≡ None)
    → x ≡ y
same_place false holds count x y first other = first ∙ sym other
same_place true holds count (Some p) (Some q) first other = ap Some (same_failure holds count p q first other)
same_place true holds count None y first other = absurd first
same_place true holds count (Some p) None first other = absurd other

pub one_rule : OneRuleFails
one_rule c fault other refuses again =
    let same : refuses.rule ≡ again.rule =
    same_rule _ _ (same_least _ _ (λ less. refuses.fails (again.lower refuses.rule less))
    (λ less. again.fails (refuses.lower again.rule less))) in
    let number : fault.rule ≡ other.rule = refuses.number ∙ ap rule_number same ∙ sym again.number in
    let place : fault.plp ≡ other.plp = same_place (nat_le 10 (rule_number again.rule)) (PlaceHolds again.rule c)
    (length c.plps) fault.plp other.plp
    (subst (λ (r : Rule). MatchBool (nat_le 10 (rule_number r))
    (IsSomeAnd fault.plp (IsFirstFailure (PlaceHolds r c) (length c.plps))) (fault.plp ≡ None)) same refuses.place)
    again.place in
    ap (λ (n : ℕ). record { rule = n; plp = fault.plp }) number
    ∙ ap (λ (p : Option ℕ). record { rule = other.rule; plp = p }) place

pub refusal_fails : RefusalFails
refusal_fails c fault refuses all = refuses.fails (all refuses.rule)

pub one_test : OneTestFails
one_test c fault other lacks again =
    let same : lacks.test ≡ again.test =
    same_test _ _
    (same_least _ _ (λ less. lacks.fails (again.lower lacks.test less))
    (λ less. again.fails (lacks.lower again.test less))) in
    let number : fault.test ≡ other.test = lacks.number ∙ ap test_number same ∙ sym again.number in
    let place : fault.plp ≡ other.plp =
    same_place (is_of_plps again.test) (PlaceFits again.test c) (length c.plps) fault.plp other.plp
    (subst (λ (t : Test). MatchBool (is_of_plps t)
    (IsSomeAnd fault.plp (IsFirstFailure (PlaceFits t c) (length c.plps)))
    (fault.plp ≡ None)) same lacks.place) again.place in
    let need : fault.need ≡ other.need = lacks.need ∙ ap (λ (t : Test). need_of t c (unwrap_or fault.plp 0)) same
    ∙ ap (λ (p : Option ℕ). need_of again.test c (unwrap_or p 0)) place ∙ sym again.need in
    let have : fault.have ≡ other.have = lacks.supply ∙ ap (λ (t : Test). supply_of t c (unwrap_or fault.plp 0)) same
    ∙ ap (λ (p : Option ℕ). supply_of again.test c (unwrap_or p 0)) place ∙ sym again.supply in
    rw (number, place, need, have) refl

pub lack_fails : LackFails
lack_fails c fault lacks all = lacks.fails (all lacks.test)
