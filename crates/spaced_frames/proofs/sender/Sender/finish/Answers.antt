use Rattle.std.proofs.Common.{[], refl, arith}
use Rattle.std.proofs.lemmas.List.{length-drop}
use Rattle.terms.specs.Bits.{bytes_of}
use Rattle.spaced_frames.proofs.SendLemmas.{finished_stands}
use Rattle.spaced_frames.proofs.sender.Sender.finish.Goals as goal

pub returns-clause-stands : goal.returns-clause-stands
returns-clause-stands c = λ x frames gave h.
    let self = c.args.self.now in
    finished_stands self.plan.now self c.finish.new.self _ x frames gave refl c.requires.idle c.requires.idle
    refl refl refl
    c.requires.«open» c.finish.ensures.finished c.finish.ensures.flows h

pub returns-clause-left : goal.returns-clause-left
returns-clause-left c =
    let same = c.finish.ensures.same [] in
    let outlet = c.args.self.now.flow.outlet in
    let waits = outlet.few in
    let room = outlet.room in
    omega (arith, same, waits, room, length-drop outlet.at (bytes_of outlet.packet))
