use Rattle.std.proofs.Common.{◌≡◌, ◌-◌, ◌*◌, ◌∙◌, length, subst}
use Rattle.plp_config.specs.SlotTime.{slots_by}
use Rattle.plp_config.specs.declared.config.Config.{Config}
use Rattle.gateway_core.specs.Events.{offered, begun}
use Rattle.gateway_core.specs.StandsFor as core
use Rattle.gateway_core.specs.SplitStandsFor.{SplitGatewayStandsFor}
use Rattle.gateway_core.proofs.StandLemmas.{asked_wants}
use Rattle.gateway_core.proofs.split_gateway.SplitGateway.wants.Goals as goal

pub returns-clause-answer : goal.returns-clause-answer
unfolding SplitGatewayStandsFor
returns-clause-answer c = λ d events s.
    let m = c.args.self.now in
    c.wants.ensures.value
    ∙ subst (λ (e : Config). core.wants_of m.gateway c.args.plp ≡ slots_by e c.args.plp (begun events * e.ticks)
    - length (offered c.args.plp events)) s.0
    (asked_wants m.plan.now m.gateway m.held.items events c.args.plp m.plps s.1 (c.requires.inside, c.requires.own)
    c.requires.none
    c.requires.some)
