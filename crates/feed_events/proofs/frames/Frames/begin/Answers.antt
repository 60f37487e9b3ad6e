use Rattle.terms.proofs.OptionLemmas.{none_some}
use Rattle.std.proofs.Common.{None}
use Rattle.frame_groups.specs.Sequenced.{past_of}
use Rattle.feed_events.proofs.CourseLemmas.{begun}
use Rattle.feed_events.proofs.frames.Frames.begin.Goals as goal

pub returns-clause-went : goal.returns-clause-went
returns-clause-went g c = λ group h.
    begun (g.G.OpenGroup.holds c.begin.new.self) (g.G.OpenGroup.rules c.args.self.now.group) c.args.self.now.course
    (past_of h.own group None) c.args.packet.now c.key_behind.result c.is_stamp.result group c.requires.none
    c.requires.unknown
    c.requires.counted c.key_behind.ensures c.is_stamp.ensures
    (c.begin.ensures.group h.own group h.holds (λ n is. none_some n is))
