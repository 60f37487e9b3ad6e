-- Slots go on until a packet of an input comes next.
use Rattle.std.proofs.Common.{◌≡◌, ◌≢◌, ◌⊎◌, ℕ, ◌+◌, ◌<◌, ◌≤◌, false, List, length, Some, None, refl}
use Rattle.std.proofs.Common.{ap, sym, subst, ◌∙◌, inl, inr, arith, ⊎_elim}
use Rattle.std.specs.Prelude.{unwrap_or}
use Rattle.std.specs.declared.option.Option.{Option}
use Rattle.std.proofs.Math.ListN.{get_or-eq_default}
use Rattle.std.proofs.lemmas.Bool.{cases_eq, cases_lt, cond-true, cond-false, true≢false}
use Rattle.terms.proofs.CaseLemmas.{bool_cases}
use Rattle.plp_config.specs.Rules.{AllRules}
use Rattle.plp_config.specs.declared.config.Config.{Config}
use Rattle.terms.proofs.OptionLemmas.{none_some}
use Rattle.common_plp.specs.Groups.{is_common, common_of}
use Rattle.gateway_core.specs.StandsFor.{wants_of}
use Rattle.gateway_core.specs.declared.gateway.Gateway.{Gateway}
use Rattle.gateway_core.specs.Order.{is_member}
use Rattle.gateway_core.specs.Slots.{held_at, HeldWanted, PassesOn, OthersWant}
use Rattle.gateway_core.specs.Works.{Moves, AreSettled}
use Rattle.gateway_core.proofs.MemberLemmas.{alone_is, turn_is}

pub then_moves : {c : Config} {g h k : Gateway} {a b d : List (Option (List ℕ))} → Moves c g h a b → Moves c h k b d
    → Moves c g k a d
then_moves m n = record {
  goes = λ events w. n.goes events (m.goes events w);
  size = n.size ∙ m.size;
  wanted = n.wanted;
  status = n.status ∙ m.status;
}

-- what is held behind a slot that went on is wanted still
pub wanted_on : (c : Config) (old new : Gateway) (held after : List (Option (List ℕ))) (turn : ℕ)
    → length held ≡ length c.plps
    → PassesOn c held turn (length c.plps) after → OthersWant c turn old new → HeldWanted c old held
    → HeldWanted c new after
wanted_on c old new held after turn size p others wanted = λ plp own some.
    ⊎_elim
    (λ (lt : plp < length c.plps). bool_cases (is_member c turn plp)
    (λ member. absurd (some (p.below plp lt ∙ cond-true (is_member c turn plp) _ _ member)))
    (λ off.
    let same : held_at after plp ≡ held_at held plp = p.below plp lt ∙ cond-false (is_member c turn plp) _ _ off in
    let w = wanted plp own (λ z. some (same ∙ z)) in
    let n = others plp off (λ e. true≢false (sym (alone_is c turn (ap (is_common c) (sym e) ∙ own))
    ∙ subst (λ (k : ℕ). is_member c turn k ≡ false) e off)) in
    omega (arith, w, n)))
    (λ (le : length c.plps ≤ plp). absurd
    (some (get_or-eq_default after None (let s = p.size in omega (arith, s, size, le)))))
    (cases_lt plp (length c.plps))

-- the first PLP of another group
first_apart : (c : Config) (turn other : ℕ) → AllRules c → turn < length c.plps → common_of c turn ≡ None
    → common_of c other ≡ None
    → other ≢ turn → is_member c turn other ≡ false
first_apart c turn other rules inside first second d =
    bool_cases (is_member c turn other)
    (λ on. absurd (d (sym (ap (λ (o : Option ℕ). unwrap_or o other) second)
    ∙ turn_is c turn other rules inside first on)))
    (λ off. off)

pub settled_on : (c : Config) (old new : Gateway) (turn : ℕ) → AllRules c → turn < length c.plps
    → common_of c turn ≡ None
    → OthersWant c turn old new → AreSettled c old turn → AreSettled c new turn
settled_on c old new turn rules inside first others s = λ t lt none.
    let apart : t ≢ turn = λ e. omega (arith, lt, e) in
    others t (first_apart c turn t rules inside first none apart) apart ∙ s t lt none

pub settled_more : (c : Config) (g : Gateway) (turn : ℕ) → AreSettled c g turn
    → (common_of c turn ≡ None → wants_of g turn ≡ 0)
    → AreSettled c g (turn + 1)
settled_more c g turn s here = λ t lt none. elim (cases_eq t turn) [
  | inl e ↦ ap (wants_of g) e ∙ here (ap (common_of c) (sym e) ∙ none)
  | inr d ↦ s t (omega (arith, lt, d)) none
]

-- ---- the first group of which something is wanted

none_or : (o : Option ℕ) → (o ≡ None) ⊎ (o ≢ None)
none_or None = inl refl
none_or (Some x) = inr (λ e. none_some x (sym e))

pub settled_next : (c : Config) (old new : Gateway) (turn : ℕ) → AllRules c → turn < length c.plps
    → (common_of c turn ≡ None → OthersWant c turn old new) → (common_of c turn ≢ None → new ≡ old)
    → (common_of c turn ≡ None → wants_of new turn ≡ 0) → AreSettled c old turn → AreSettled c new (turn + 1)
settled_next c old new turn rules inside others same here s = elim (none_or (common_of c turn)) [
  | inl first ↦ settled_more c new turn (settled_on c old new turn rules inside first (others first) s) here
  | inr some ↦ settled_more c new turn (subst (λ (g : Gateway). AreSettled c g turn) (sym (same some)) s) here
]
