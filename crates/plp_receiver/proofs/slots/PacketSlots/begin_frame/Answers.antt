use Rattle.std.proofs.Common.{subst}
use Rattle.plp_receiver.specs.Sound.{IsSound}
use Rattle.plp_receiver.specs.SlotsStandFor.{PacketSlotsStandsFor, StandsWithin}
use Rattle.plp_receiver.proofs.SlotsStandLemmas.{enters, low_at}
use Rattle.plp_receiver.proofs.slots.PacketSlots.begin_frame.Goals as goal

pub returns-clause-stands : goal.returns-clause-stands
unfolding PacketSlotsStandsFor StandsWithin
returns-clause-stands c = λ r first count epochs released h.
    let p = c.args.self.now in
    enters r (subst IsSound h.both.rule p.window.sound) c.slot_time_law.ensures.count_rises first p.frame
    count epochs released
    p.assembler p.window c.enter.new.self h
    (low_at p.window.rule r p.in_frame p.frame p.window.end h.both.rule c.requires.outside p.reached)
    c.enter.ensures.status c.enter.ensures.order
