use Rattle.std.proofs.Common.{length, ap, ◌∙◌, arith}
use Rattle.plp_config.specs.declared.config.Config.{Config}
use Rattle.gateway_core.specs.StandsFor.{Status}
use Rattle.gateway_run.proofs.ApartLemmas.{asks_apart, first_on}
use Rattle.gateway_run.proofs.apart.GatewayFrameGateway.offer.Goals as goal

pub returns-clause-asks : goal.returns-clause-asks
returns-clause-asks c =
    let was = c.requires.asks.asks in
    let status = c.offer.ensures.status in
    asks_apart c.offer.new.self c.args.plan.now (ap (λ (t : Status). t.plps) status ∙ c.requires.asks.is_of)
    (ap (λ (t : Status). t.finished) status ∙ c.requires.idle.is_open) c.len.result
    (c.len.ensures ∙ ap (λ (k : Config). length k.plps) c.config.ensures.value) c.first_wanted.result
    (first_on c.args.self.now c.offer.new.self c.len.result c.args.input c.first_wanted.result
    (λ k lt. was.2 k (omega arith) lt) c.offer.ensures.others c.first_wanted.ensures)
