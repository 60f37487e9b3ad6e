use Rattle.std.proofs.Common.{true, refl, sym, ◌∙◌}
use Rattle.std.proofs.lemmas.Bool.{or_right}
use Rattle.gateway_core.specs.Events.{Finished}
use Rattle.gateway_core.specs.StandsFor.{GatewayStandsFor}
use Rattle.gateway_core.proofs.HoldsLemmas.{holds_with, fed_same}
use Rattle.gateway_core.proofs.InputsLemmas.{back, nothing_told}
use Rattle.gateway_core.proofs.gateway.Gateway.finish.Goals as goal

pub returns-clause-stands : goal.returns-clause-stands
unfolding GatewayStandsFor
returns-clause-stands c = λ config events h. (
  h.0,
  holds_with Finished h.1 refl (c.finish.ensures.finished ∙ sym (or_right c.args.self.now.flow.finished true refl))
      (fed_same _ _ _ config events Finished (λ j. nothing_told j events Finished refl refl refl) (λ j. refl) h.1.fed)
      (λ j on. refl) (λ all given f. c.finish.ensures.flows config _ _ all given f),
  λ all more. h.2 all (back config events Finished all (λ j on. refl) more),
)
