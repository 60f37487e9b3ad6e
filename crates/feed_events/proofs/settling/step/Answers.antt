use Rattle.std.proofs.Common.{◌∷◌, [], Option, subst}
use Rattle.t2mi_packet.specs.declared.packet.Packet.{Packet}
use Rattle.frame_groups.specs.Groups.{Group}
use Rattle.feed_events.specs.Arrivals.Arrival.{Came}
use Rattle.feed_events.specs.Under.{IsHeld, Went, course_events}
use Rattle.feed_events.proofs.StandsLemmas.{worked_off, held_back}
use Rattle.feed_events.proofs.settling.step.Goals as goal

pub returns-then-not-work-clause-stands : goal.returns-then-not-work-clause-stands
returns-then-not-work-clause-stands g c = λ idle finished bytes gone h.
    let old = c.args.frames.now in
    let new = c.work.new.self in
    let r = g.G.OpenGroup.rules old.group in
    held_back c.events_push_law.ensures (g.G.OpenGroup.holds old.group) (g.G.OpenGroup.holds new.group)
    r c.args.unpiper.now
    old.course new.course idle finished bytes gone c.bytes.result.now c.bytes.ensures.bytes
    (subst
    (λ (p : Packet). (group : Option Group) → IsHeld (g.G.OpenGroup.holds old.group) old.course group
    → Went (g.G.OpenGroup.holds new.group) r new.course (course_events r old.course group) (Came p ∷ []) (Came p ∷ []))
    c.read_known-packet.ensures.exact (c.work.ensures.waits c.if-not-work.true))
    h

pub returns-clause-stands : goal.returns-clause-stands
returns-clause-stands g c = λ idle finished bytes gone h.
    let old = c.args.frames.now in
    let new = c.work.new.self in
    let r = g.G.OpenGroup.rules old.group in
    worked_off c.events_push_law.ensures (g.G.OpenGroup.holds old.group) (g.G.OpenGroup.holds new.group)
    r c.args.unpiper.now
    c.release.new.self old.course new.course idle finished bytes gone c.bytes.result.now c.bytes.ensures.bytes
    c.release.ensures.stands
    (subst
    (λ (p : Packet). (group : Option Group) → IsHeld (g.G.OpenGroup.holds old.group) old.course group
    → Went (g.G.OpenGroup.holds new.group) r new.course (course_events r old.course group) (Came p ∷ []) [])
    c.read_known-packet.ensures.exact (c.work.ensures.went c.if-not-work.false))
    h
