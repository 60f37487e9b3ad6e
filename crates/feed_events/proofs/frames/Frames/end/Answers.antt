use Rattle.feed_events.proofs.CourseLemmas.{ended_with, ended_over}
use Rattle.feed_events.proofs.frames.Frames.end.Goals as goal

pub returns-then-not-close-clause-ended : goal.returns-then-not-close-clause-ended
returns-then-not-close-clause-ended g c = λ group h.
    ended_over (g.G.OpenGroup.holds c.close.new.self.group) (g.G.OpenGroup.rules c.args.self.now.group)
    c.args.self.now.course
    c.close.new.self.course group (c.close.ensures.same group h) c.close.ensures.closed
    (c.close.ensures.none c.if-not-close.true)
    (c.close.ensures.held group h)

pub returns-else-not-close-clause-ended : goal.returns-else-not-close-clause-ended
returns-else-not-close-clause-ended g c = λ group h.
    ended_with (g.G.OpenGroup.holds c.close.new.self.group) (g.G.OpenGroup.rules c.args.self.now.group)
    c.args.self.now.course
    c.close.new.self.course group (c.close.ensures.same group h) (c.close.ensures.held group h)
