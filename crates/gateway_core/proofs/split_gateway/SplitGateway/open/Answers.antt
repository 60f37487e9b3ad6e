use Rattle.std.proofs.Common.{[], ◌∙◌, ap, length, refl}
use Rattle.plp_config.specs.declared.config.Config.{Config}
use Rattle.gateway_core.specs.StandsFor.{Status}
use Rattle.gateway_core.specs.SplitStandsFor.{SplitGatewayStandsFor}
use Rattle.gateway_core.proofs.StandLemmas.{new_works, none_is_wanted}
use Rattle.gateway_core.proofs.split_gateway.SplitGateway.open.Goals as goal

pub invariant_of-result : goal.invariant_of-result
invariant_of-result c = record {
  plps = ap (λ (s : Status). s.plps) c.in_ok-gateway.ensures.status;
  whole = c.in_ok-held.ensures.count ∙ c.len-count.ensures ∙ ap (λ (d : Config). length d.plps) c.config.ensures.value;
  grouped = c.in_ok-groups.ensures;
  wanted = none_is_wanted c.args.plan.now c.in_ok-gateway.gateway c.in_ok-held.held.items _ c.in_ok-held.ensures.none;
  worked = ∣ record {
    events = [];
    works = new_works c.args.plan.now c.in_ok-gateway.gateway c.in_ok-held.held.items _ c.in_ok-held.ensures.none
        c.in_ok-gateway.ensures.stands;
  } ∣₁;
}

pub returns-clause-stands : goal.returns-clause-stands
unfolding SplitGatewayStandsFor
returns-clause-stands c = (
  refl,
  new_works c.args.plan.now c.in_ok-gateway.gateway c.in_ok-held.held.items _ c.in_ok-held.ensures.none
      c.in_ok-gateway.ensures.stands,
)
