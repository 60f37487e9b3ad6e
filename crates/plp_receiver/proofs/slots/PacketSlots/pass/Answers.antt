use Rattle.std.proofs.Common.{append-nil, ◌∙◌, ap}
use Rattle.plp_receiver.specs.SlotsStandFor.{PacketSlotsStandsFor, StandsWithin, SlotsStatus, ends_by}
use Rattle.plp_receiver.proofs.SlotsStandLemmas.{passes, stands_at}
use Rattle.plp_receiver.proofs.slots.PacketSlots.pass.Goals as goal

pub returns-clause-stands : goal.returns-clause-stands
unfolding PacketSlotsStandsFor StandsWithin
returns-clause-stands c = λ r first count epochs released h.
    let within = c.begin_frame.ensures.stands r first count epochs released h in
    let inner = ap ends_by c.begin_frame.ensures.status ∙ c.requires.inner in
    stands_at c.leave.ensures.assembler (ap (λ (s : SlotsStatus). s.frame) c.leave.ensures.status)
    (passes within c.leave.new.self.window c.leave.ensures.window inner (simp append-nil at within.both))
