use Rattle.std.proofs.Common.{◌≡◌, ◌∷◌, [], ap, false, true, subst, rules}
use Rattle.frame_groups.specs.Groups.{is_counted}
use Rattle.frame_groups.specs.Modulated.{Rules}
use Rattle.feed_events.specs.Arrivals.Arrival.{Came}
use Rattle.feed_events.specs.Under.{Went, course_events}
use Rattle.feed_events.proofs.CourseLemmas.{skipped, waits, then_begun}
use Rattle.feed_events.proofs.frames.Frames.work.Goals as goal

pub returns-then-not-is_counted-clause-went : goal.returns-then-not-is_counted-clause-went
returns-then-not-is_counted-clause-went g c = λ _ group h.
    let r = g.G.OpenGroup.rules c.args.self.now.group in
    let kept : is_counted r.frames c.args.packet.now ≡ false = search rules in
    skipped (g.G.OpenGroup.holds c.args.self.now.group) r c.args.self.now.course c.args.packet.now group kept h

pub returns-then-close-clause-waits : goal.returns-then-close-clause-waits
returns-then-close-clause-waits g c = λ _ group h.
    let self = c.args.self.now in
    let r = g.G.OpenGroup.rules self.group in
    let kept : is_counted r.frames c.args.packet.now ≡ true = search rules in
    waits (g.G.OpenGroup.holds self.group) (g.G.OpenGroup.holds c.close.new.self.group) r self.course
    c.close.new.self.course
    c.args.packet.now group (c.close.ensures.same group h) kept
    (λ x is under. c.goes_on.ensures.other c.if-goes_on.false under h.own x
    (subst (g.G.OpenGroup.holds self.group h.own) is h.holds))
    (c.close.ensures.held group h)

pub returns-clause-went : goal.returns-clause-went
returns-clause-went g c = λ _ group h.
    let self = c.args.self.now in
    let r = g.G.OpenGroup.rules self.group in
    let kept : is_counted r.frames c.args.packet.now ≡ true = search rules in
    let d = c.close.new.self.course in
    then_begun (g.G.OpenGroup.holds c.begin.new.self.group) r self.course d c.begin.new.self.course c.args.packet.now
    group
    (c.close.ensures.same group h) kept
    (λ x is under. c.goes_on.ensures.other c.if-goes_on.false under h.own x
    (subst (g.G.OpenGroup.holds self.group h.own) is h.holds))
    (subst
    (λ (r : Rules). Went (g.G.OpenGroup.holds c.begin.new.self.group) r c.begin.new.self.course
    (course_events r d group)
    (Came c.args.packet.now ∷ []) [])
    (ap g.G.OpenGroup.rules c.close.ensures.group) (c.begin.ensures.went group (c.close.ensures.held group h)))
