use Rattle.gateway_core.proofs.FedLemmas.{fed_offer, served}
use Rattle.gateway_core.proofs.input.Input.offer.Goals as goal

pub returns-clause-fed : goal.returns-clause-fed
returns-clause-fed c = λ config plp t place h.
    fed_offer c.args.pool.now c.offer_to.new.pool c.args.list place h _ c.offer_to.ensures.takes c.requires.wanted

pub offer_to-requires-clause-ready : goal.offer_to-requires-clause-ready
offer_to-requires-clause-ready c = served c.args.self.now c.args.pool.now c.args.list c.requires.ready
