use Rattle.feed_events.proofs.CourseLemmas.{waits_idle, silenced}
use Rattle.feed_events.proofs.frames.Frames.fall_silent.Goals as goal

pub returns-then-close-clause-waits : goal.returns-then-close-clause-waits
returns-then-close-clause-waits g c = λ _ group h.
    waits_idle (g.G.OpenGroup.holds c.close.new.self.group) (g.G.OpenGroup.rules c.args.self.now.group)
    c.args.self.now.course
    c.close.new.self.course group (c.close.ensures.same group h) (c.close.ensures.held group h)

pub returns-clause-went : goal.returns-clause-went
returns-clause-went g c = λ _ group h.
    silenced (g.G.OpenGroup.holds c.close.new.self.group) (g.G.OpenGroup.rules c.args.self.now.group)
    c.args.self.now.course
    c.close.new.self.course group (c.close.ensures.same group h) c.close.ensures.closed
    (c.close.ensures.none c.if-close.false)
    (c.close.ensures.held group h)
