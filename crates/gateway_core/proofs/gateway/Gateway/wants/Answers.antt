use Rattle.std.proofs.Common.{◌≡◌, ◌∙◌, List, map, subst}
use Rattle.std.specs.Prelude.{slice_index}
use Rattle.gateway_core.specs.IsFed.{wanted}
use Rattle.gateway_core.specs.Left.{early_of}
use Rattle.gateway_core.specs.StandsFor.{GatewayStandsFor}
use Rattle.gateway_core.specs.declared.input.Input.{Input}
use Rattle.gateway_core.proofs.HoldsLemmas.{wants_are}
use Rattle.gateway_core.proofs.gateway.Gateway.wants.Goals as goal

pub returns-clause-answer : goal.returns-clause-answer
unfolding GatewayStandsFor
returns-clause-answer c = λ config events h.
    let value = subst (λ (l : List Input). c.wanted.result ≡ slice_index (map wanted l) c.args.plp)
    c.deref.ensures.value
    c.wanted.ensures in
    value ∙ wants_are _ (early_of c.args.self.now.plan.now c.args.self.now.frame) _ config events c.requires h.1.fed
