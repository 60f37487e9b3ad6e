use Rattle.std.proofs.Common.{◌≤◌, ◌/◌, ◌++◌, ℕ, Option, ap, sym, subst, refl, arith}
use Rattle.std.proofs.Math.Nat.{div-le_self}
use Rattle.std.proofs.lemmas.List.{length-drop}
use Rattle.terms.specs.Bits.{bytes_of}
use Rattle.frame_writer.specs.Carried.{of_frame}
use Rattle.spaced_frames.specs.Spaced.{spacers, spacers_behind, spacers_between}
use Rattle.spaced_frames.specs.StandsFor.{bodies_as, content_of, later_in, Continues}
use Rattle.spaced_frames.specs.declared.stage.Stage.{Stage}
use Rattle.spaced_frames.proofs.BoundLemmas.{few_next}
use Rattle.spaced_frames.proofs.SendLemmas.{stands_begun, first_continues, sends_is}
use Rattle.spaced_frames.proofs.sender.Sender.begin.Goals as goal

pub returns-in-Some-clause-stands : goal.returns-in-Some-clause-stands
returns-in-Some-clause-stands c = λ x frames gave h.
    let self = c.args.self.now in
    let k = self.plan.now in
    let y = content_of c.args.frame.now in
    let number = c.args.number in
    let next = of_frame number (bodies_as k number y) in
    stands_begun k self c.go_on.new.self x y frames gave number c.requires.idle refl c.go_on.ensures.config
    c.go_on.ensures.number c.go_on.ensures.stage
    (λ all s.
    subst (λ (o : Option ℕ). Continues k c.go_on.new.self y (spacers k o number ++ next) all gave) (sym c.in-Some.is)
    (subst (λ (m : ℕ). Continues k c.go_on.new.self y (spacers_behind k m (spacers_between m (number / k.frames))
    ++ next) all gave)
    c.superframe_of.ensures (c.go_on.ensures.goes self.place.number all gave s)))
    h

pub returns-in-None-clause-stands : goal.returns-in-None-clause-stands
returns-in-None-clause-stands c = λ x frames gave h.
    let self = c.args.self.now in
    let k = self.plan.now in
    let y = content_of c.args.frame.now in
    let number = c.args.number in
    let next = of_frame number (bodies_as k number y) in
    let new = c.begin_frame.new.self in
    stands_begun k self new x y frames gave number c.requires.idle refl c.begin_frame.ensures.config
    c.begin_frame.ensures.number (sends_is new c.begin_frame.ensures.stage)
    (λ all s.
    subst (λ (o : Option ℕ). Continues k new y (spacers k o number ++ next) all gave) (sym c.in-None.is)
    (first_continues k new y next all gave (ap (λ (a : Stage). later_in k a new y) c.begin_frame.ensures.stage)
    (c.begin_frame.ensures.begun self.place.number all gave s)))
    h

pub returns-in-Some-clause-left : goal.returns-in-Some-clause-left
returns-in-Some-clause-left c =
    let self = c.args.self.now in
    let k = self.plan.now in
    let number = c.args.number in
    let t = number / k.frames in
    let early = c.requires.early in
    let few = few_next k c.superframe_of.result t number (bodies_as k number (content_of c.args.frame.now))
    (let e : t ≤ number = div-le_self number k.frames in omega (arith, e, early)) (c.few_blocks.ensures number) in
    let left = c.go_on.ensures.left in
    let outlet = self.flow.outlet in
    let waits = outlet.few in
    let room = outlet.room in
    omega (arith, few.0, few.1, left, waits, room, length-drop outlet.at (bytes_of outlet.packet))
