use Rattle.std.proofs.Common.{◌≡◌, ◌∙◌, ℕ, true, false, List, length, sym, subst, ap, eq-eqb}
use Rattle.std.proofs.lemmas.Bool.{eqb-true}
use Rattle.plp_config.specs.RunLength.{frame_count}
use Rattle.plp_config.specs.declared.config.Config.{Config}
use Rattle.gateway_core.specs.InputsStandFor.{AllEnded, HaveEnded}
use Rattle.gateway_core.specs.StandsFor.{GatewayStandsFor}
use Rattle.gateway_core.specs.declared.input.Input.{Input}
use Rattle.gateway_core.proofs.HoldsLemmas.{last_none, last_some}
use Rattle.gateway_core.proofs.gateway.Gateway.last.Goals as goal

pub returns-in-None : goal.returns-in-None
unfolding GatewayStandsFor
returns-in-None c = λ config events h.
    let not_all : ¬ (AllEnded c.args.self.now.inputs.items) =
    subst (λ (l : List Input). ¬ (AllEnded l)) c.deref.ensures.value c.in-None.ensures.none in
    let len : length c.args.self.now.inputs.items ≡ length config.plps =
    sym (ap length c.deref.ensures.value) ∙ c.deref.ensures.len ∙ c.args.self.now.whole
    ∙ ap (λ (k : Config). length k.plps) h.0 in
    let off = last_none c.args.self.now.inputs.items _ config events len h.1.fed not_all in
    (λ z. absurd (let e : false ≡ true = z in cc), λ last. absurd (off last))

pub returns-in-Some : goal.returns-in-Some
unfolding GatewayStandsFor
returns-in-Some c = λ config events h.
    let all : AllEnded c.args.self.now.inputs.items =
    subst (λ (l : List Input). AllEnded l) c.deref.ensures.value c.in-Some.ensures.some in
    let len : length c.args.self.now.inputs.items ≡ length config.plps =
    sym (ap length c.deref.ensures.value) ∙ c.deref.ensures.len ∙ c.args.self.now.whole
    ∙ ap (λ (k : Config). length k.plps) h.0 in
    let count : (packets : ℕ → ℕ) → HaveEnded c.args.self.now.inputs.items packets
    → c.in-Some.frames ≡ frame_count config packets =
    λ packets ended. c.in-Some.ensures.count packets
    (subst (λ (l : List Input). HaveEnded l packets) (sym c.deref.ensures.value) ended)
    ∙ ap (λ (k : Config). frame_count k packets) h.0 in
    let s = last_some c.args.self.now.inputs.items _ config events c.args.self.now.frames c.in-Some.frames len h.1.fed
    h.1.frames_are all count in (
      λ z. s.0 (eqb-true c.in-Some.frames c.from.result z ∙ c.from.ensures),
      λ last. eq-eqb c.in-Some.frames c.from.result
          (s.1 last ∙ sym c.from.ensures),
    )
