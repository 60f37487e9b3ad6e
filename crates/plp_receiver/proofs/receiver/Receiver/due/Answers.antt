use Rattle.std.proofs.Common.{length}
use Rattle.plp_receiver.specs.SlotEpochs.{readback}
use Rattle.plp_receiver.specs.Epochs.{slot_rule}
use Rattle.plp_receiver.specs.StandsFor.{ReceiverStandsFor, IsFresh}
use Rattle.plp_receiver.proofs.StandsLemmas.{packets_are, given_back}
use Rattle.plp_receiver.proofs.receiver.Receiver.due.Goals as goal

pub returns-clause-answer : goal.returns-clause-answer
unfolding ReceiverStandsFor
returns-clause-answer c = λ first views released packets s b.
    let v = c.args.self.now in
    rw (packets_are c.readback_law.ensures.once v.network v.plp v.slots v.held first views released packets s b) at
    (c.due.ensures.answer (slot_rule v.network v.plp) first (length views) s.told released s.stands)

pub returns-clause-some : goal.returns-clause-some
unfolding ReceiverStandsFor
returns-clause-some c = λ first views released s. (
  readback (slot_rule c.args.self.now.network c.args.self.now.plp) first (length views) s.told,
  given_back c.args.self.now.network c.args.self.now.plp c.args.self.now.slots c.args.self.now.held first
      views released s,
)

pub returns-clause-fresh : goal.returns-clause-fresh
unfolding IsFresh
returns-clause-fresh c = λ f. c.due.ensures.fresh (slot_rule c.args.self.now.network c.args.self.now.plp) f.fresh
