use Rattle.std.proofs.Common.{◌≡◌, true, subst}
use Rattle.std.specs.Prelude.{◌↔◌}
use Rattle.plp_config.specs.declared.config.Config.{Config}
use Rattle.gateway_core.specs.Continuing.{IsLast}
use Rattle.gateway_core.specs.SplitStandsFor.{SplitGatewayStandsFor}
use Rattle.gateway_core.proofs.EndLemmas.{last_is}
use Rattle.gateway_core.proofs.split_gateway.SplitGateway.last.Goals as goal

pub returns : goal.returns
unfolding SplitGatewayStandsFor
returns c = λ d events s.
    let m = c.args.self.now in
    subst (λ (e : Config). (c.last.result ≡ true) ↔ IsLast e events) s.0
    (last_is s.1 c.not_yet_last_law.ensures c.last.result c.rules_law.ensures.plan m.plps c.requires c.last.ensures)
