use Rattle.std.proofs.Common.{length}
use Rattle.plp_receiver.specs.Epochs.{slot_rule}
use Rattle.plp_receiver.specs.StandsFor.{ReceiverStandsFor, IsFresh}
use Rattle.plp_receiver.proofs.StandsLemmas.{released_or_not, packets_are, still_fresh}
use Rattle.plp_receiver.proofs.receiver.Receiver.release.Goals as goal

pub returns-clause-stands : goal.returns-clause-stands
unfolding ReceiverStandsFor
returns-clause-stands c = λ first views released s.
    let v = c.args.self.now in
    released_or_not v.network v.plp v.slots c.release.new.self v.held first views released c.release.result s
    c.release.ensures.stands

pub returns-clause-answer : goal.returns-clause-answer
unfolding ReceiverStandsFor
returns-clause-answer c = λ e first views released packets s b.
    let v = c.args.self.now in
    rw (packets_are c.readback_law.ensures.once v.network v.plp v.slots v.held first views released packets s b) at
    (c.release.ensures.answer e (slot_rule v.network v.plp) first (length views) s.told released s.stands)

pub returns-clause-none : goal.returns-clause-none
unfolding ReceiverStandsFor
returns-clause-none c = λ e first views released packets s b.
    let v = c.args.self.now in
    rw (packets_are c.readback_law.ensures.once v.network v.plp v.slots v.held first views released packets s b) at
    (c.release.ensures.none e (slot_rule v.network v.plp) first (length views) s.told released s.stands)

pub returns-clause-fresh : goal.returns-clause-fresh
unfolding IsFresh
returns-clause-fresh c = λ f.
    let v = c.args.self.now in
    still_fresh v.network v.plp v.slots c.release.new.self v.held f c.release.result c.release.ensures.exact
    c.release.ensures.same
