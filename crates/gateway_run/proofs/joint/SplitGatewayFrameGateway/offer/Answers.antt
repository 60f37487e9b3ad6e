use Rattle.std.proofs.Common.{◌+◌, ℕ, ap, subst, ◌∙◌, ◌++◌, ◌∷◌, []}
use Rattle.plp_config.specs.declared.config.Config.{Config}
use Rattle.common_plp.specs.Inputs.{commons}
use Rattle.gateway_core.specs.Events.{Offered}
use Rattle.gateway_core.specs.SplitStandsFor.{SplitGatewayStandsFor}
use Rattle.gateway_run.proofs.joint.SplitGatewayFrameGateway.offer.Goals as goal

pub returns-clause-stands : goal.returns-clause-stands
returns-clause-stands c = λ events stands.
    c.look.ensures.stands _
    (subst (λ (k : ℕ). SplitGatewayStandsFor c.offer.new.self c.args.plan.now
    (events ++ Offered k c.args.packet.now ∷ []))
    (ap (λ (n : ℕ). c.args.input + n) (c.commons.ensures ∙ ap (λ (k : Config). commons k.plps) c.config.ensures.value))
    (c.offer.ensures.stands c.args.plan.now events stands))
