use Rattle.std.proofs.Common.{◌∙◌}
use Rattle.plp_receiver.specs.SlotsStandFor.{PacketSlotsStandsFor, IsFresh}
use Rattle.plp_receiver.proofs.SlotsStandLemmas.{due_is, fresh_due}
use Rattle.plp_receiver.proofs.slots.PacketSlots.due.Goals as goal

pub returns-clause-answer : goal.returns-clause-answer
unfolding PacketSlotsStandsFor
returns-clause-answer c = λ r first count epochs released h. c.due.ensures
    ∙ due_is h

pub returns-clause-fresh : goal.returns-clause-fresh
unfolding IsFresh
returns-clause-fresh c = λ r h. c.due.ensures ∙ fresh_due c.args.self.now.assembler c.args.self.now.window r h
