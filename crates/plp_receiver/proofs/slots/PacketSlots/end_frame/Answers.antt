use Rattle.std.proofs.Common.{ap}
use Rattle.plp_receiver.specs.SlotEpochs.{epoch_with}
use Rattle.plp_receiver.specs.SlotsStandFor.{PacketSlotsStandsFor, StandsWithin, SlotsStatus}
use Rattle.plp_receiver.proofs.SlotsStandLemmas.{ends_with, stands_at}
use Rattle.plp_receiver.proofs.slots.PacketSlots.end_frame.Goals as goal

pub returns-clause-stands : goal.returns-clause-stands
unfolding PacketSlotsStandsFor StandsWithin
returns-clause-stands c = λ r first count epochs blocks released h.
    stands_at c.leave.ensures.assembler (ap (λ (s : SlotsStatus). s.frame) c.leave.ensures.status)
    (ends_with h c.leave.new.self.window c.leave.ensures.window (epoch_with blocks) c.requires.last h.both)
