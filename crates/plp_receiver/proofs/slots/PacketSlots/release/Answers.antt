use Rattle.std.proofs.Common.{arith}
use Rattle.plp_receiver.specs.SlotsStandFor.{PacketSlotsStandsFor}
use Rattle.plp_receiver.proofs.SlotsStandLemmas.{released_or_not, release_answers, none_due}
use Rattle.plp_receiver.proofs.slots.PacketSlots.release.Goals as goal

pub returns-clause-stands : goal.returns-clause-stands
unfolding PacketSlotsStandsFor
returns-clause-stands c = λ r first count epochs released h.
    let p = c.args.self.now in
    released_or_not h c.release.new.self c.release.result
    c.release.ensures.due c.release.ensures.status p.window.known

pub returns-clause-answer : goal.returns-clause-answer
unfolding PacketSlotsStandsFor
returns-clause-answer c = λ e r first count epochs released h.
    let p = c.args.self.now in
    release_answers h c.release.result e
    c.release.ensures.due
    c.release.new.out c.args.out.now c.release.ensures.packet p.window.known

pub returns-then-due-eq0-clause-none : goal.returns-then-due-eq0-clause-none
unfolding PacketSlotsStandsFor
returns-then-due-eq0-clause-none c = λ e r first count epochs released h.
    none_due h
    (omega (arith, c.due.ensures, c.if-due-eq0.true))
