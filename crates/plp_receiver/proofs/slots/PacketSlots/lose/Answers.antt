use Rattle.std.proofs.Common.{[], ◌∙◌, ap}
use Rattle.plp_receiver.specs.SlotEpochs.{lost_epoch}
use Rattle.plp_receiver.specs.SlotsStandFor.{PacketSlotsStandsFor, StandsWithin, SlotsStatus, ends_by}
use Rattle.plp_receiver.proofs.SlotsStandLemmas.{ends_with, stands_at}
use Rattle.plp_receiver.proofs.slots.PacketSlots.lose.Goals as goal

pub returns-clause-stands : goal.returns-clause-stands
unfolding PacketSlotsStandsFor StandsWithin
returns-clause-stands c = λ r first count epochs released h.
    let within = c.skip.ensures.stands r first count epochs [] released
    (c.begin_frame.ensures.stands r first count epochs released h) in
    let last = ap ends_by (c.skip.ensures.status ∙ c.begin_frame.ensures.status) ∙ c.requires.last in
    stands_at c.leave.ensures.assembler (ap (λ (s : SlotsStatus). s.frame) c.leave.ensures.status)
    (ends_with within c.leave.new.self.window c.leave.ensures.window lost_epoch last within.both)
