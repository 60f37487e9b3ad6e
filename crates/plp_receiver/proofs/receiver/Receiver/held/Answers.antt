use Rattle.plp_receiver.specs.StandsFor.{ReceiverStandsFor, IsFresh}
use Rattle.plp_receiver.specs.Epochs.{slot_rule}
use Rattle.plp_receiver.proofs.StandsLemmas.{held_is}
use Rattle.plp_receiver.proofs.receiver.Receiver.held.Goals as goal

pub returns-clause-answer : goal.returns-clause-answer
unfolding ReceiverStandsFor
returns-clause-answer c = λ first views released s.
    let v = c.args.self.now in
    held_is v.network v.plp v.slots v.held first views released c.held.result s c.held.ensures.answer

pub returns-clause-fresh : goal.returns-clause-fresh
unfolding IsFresh
returns-clause-fresh c = λ f. c.held.ensures.fresh (slot_rule c.args.self.now.network c.args.self.now.plp) f.fresh
