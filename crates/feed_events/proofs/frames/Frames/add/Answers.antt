use Rattle.std.proofs.Common.{subst}
use Rattle.feed_events.proofs.CourseLemmas.{has_group, added}
use Rattle.feed_events.proofs.frames.Frames.add.Goals as goal

pub returns-clause-went : goal.returns-clause-went
returns-clause-went g c = λ group h.
    let self = c.args.self.now in
    let m = has_group group _ (c.key-key.ensures.is h.own group h.holds) (self.some c.requires.some) in
    let holds = subst (g.G.OpenGroup.holds self.group h.own) m.is h.holds in
    added (g.G.OpenGroup.holds self.group) (g.G.OpenGroup.holds c.add.new.self) (g.G.OpenGroup.rules self.group)
    self.course
    c.args.packet.now c.stamped_with-self.result group m.group m.is c.requires.some (self.known c.requires.some)
    c.requires.counted
    (c.requires.same h.own m.group holds) c.stamped_with-self.ensures h (c.add.ensures.group h.own m.group holds)
