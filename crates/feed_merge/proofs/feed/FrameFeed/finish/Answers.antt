use Rattle.std.proofs.Common.{ap}
use Rattle.modulator.specs.Modulating.{Stream}
use Rattle.feed_merge.proofs.FeedLemmas.{ended}
use Rattle.feed_merge.proofs.feed.FrameFeed.finish.Goals as goal

pub returns-clause-stands : goal.returns-clause-stands
returns-clause-stands c = λ bytes given s.
    let f = c.finish.ensures in
    ended c.due_records_law.ensures.front c.args.self.now _ bytes given c.requires.idle
    (ap (λ (k : Stream). k.network) f.stream)
    (ap (λ (k : Stream). k.finished) f.stream) (ap (λ (k : Stream). k.fed) f.stream) (f.stands bytes given s.stands)
    (c.waiting-self.ensures.some, c.waiting-self.ensures.none) s
