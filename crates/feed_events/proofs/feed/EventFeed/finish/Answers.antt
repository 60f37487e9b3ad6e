use Rattle.std.proofs.Common.{◌++◌, true, false}
use Rattle.feed_events.proofs.StandsLemmas.{by_flags, by_rules, finished_by}
use Rattle.feed_events.proofs.feed.EventFeed.finish.Goals as goal

pub returns-clause-stands : goal.returns-clause-stands
returns-clause-stands g c = λ bytes gone h.
    let self = c.args.self.now in
    let r = g.G.OpenGroup.rules self.frames.group in
    let holds = g.G.OpenGroup.holds self.frames.group in
    let settled = self.settled c.requires.unknown in
    by_rules (g.G.OpenGroup.holds c.rest-self.new.frames.group) r (g.G.OpenGroup.rules c.rest-self.new.frames.group)
    self.unpiper
    c.rest-self.new.frames.course c.rest-self.result true (bytes ++ c.args.tail.now) gone c.rest-self.ensures.rules
    (c.rest-self.ensures.stands (bytes ++ c.args.tail.now) gone
    (finished_by holds r self.unpiper self.frames.course bytes c.args.tail.now gone c.requires.short
    (by_flags holds r self.unpiper self.frames.course self.idle false self.finished false bytes gone
    settled.1 settled.2 h)))
