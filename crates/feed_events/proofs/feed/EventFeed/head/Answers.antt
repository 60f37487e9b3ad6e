use Rattle.std.proofs.Common.{◌∙◌}
use Rattle.feed_events.proofs.CourseLemmas.{has_group}
use Rattle.feed_events.proofs.StandsLemmas.{is_next, unknown_next, not_under}
use Rattle.feed_events.proofs.feed.EventFeed.head.Goals as goal

pub returns-clause-next : goal.returns-clause-next
returns-clause-next g c = λ bytes gone h ended all later can.
    let self = c.args.self.now in
    let course = self.frames.course in
    is_next (g.G.OpenGroup.holds self.frames.group) (g.G.OpenGroup.rules self.frames.group) self.unpiper
    course self.idle self.finished
    bytes gone h
    (λ n e. let x = has_group h.group _ (c.key-key.ensures.is h.held.own h.group h.held.holds)
    (self.frames.shown n e) in (x.group, x.is))
    (λ e. let o = self.over e in (
      c.is_ready-ready.ensures.none (c.is_ready-ready.ensures.is ∙ o.0),
      o.1,
      o.2,
      not_under course.under_way course.head self.frames.known e,
    ))
    ended all later can

pub returns-clause-unknown : goal.returns-clause-unknown
returns-clause-unknown g c = λ e bytes gone h.
    let self = c.args.self.now in
    let o = self.settled e in
    unknown_next (g.G.OpenGroup.holds self.frames.group) (g.G.OpenGroup.rules self.frames.group) self.unpiper
    self.frames.course self.idle
    self.finished bytes gone h (c.is_ready-ready.ensures.none (c.is_ready-ready.ensures.is ∙ o.0)) o.1 o.2 e
