use Rattle.std.proofs.Common.{length, ap, ◌∙◌}
use Rattle.plp_config.specs.declared.config.Config.{Config}
use Rattle.gateway_run.proofs.ApartLemmas.{asks_apart}
use Rattle.gateway_run.proofs.apart.GatewayFrameGateway.look.Goals as goal

pub returns-clause-asks : goal.returns-clause-asks
returns-clause-asks c =
    asks_apart c.args.self.now c.args.plan.now c.requires.is_of c.requires.idle.is_open c.len.result
    (c.len.ensures ∙ ap (λ (k : Config). length k.plps) c.config.ensures.value) c.first_wanted.result
    c.first_wanted.ensures
