use Rattle.std.proofs.Common.{ap, ◌∙◌}
use Rattle.modulator.specs.Modulating.{Stream}
use Rattle.feed_merge.proofs.FeedLemmas.{fed_on}
use Rattle.feed_merge.proofs.feed.FrameFeed.feed.Goals as goal

pub returns-clause-stands : goal.returns-clause-stands
returns-clause-stands c = λ bytes given s.
    let f = c.feed-count.ensures in
    fed_on c.due_records_law.ensures.front c.args.self.now _ bytes c.args.piece.now c.feed-count.result given
    c.requires.idle (ap (λ (k : Stream). k.network) f.stream)
    (ap (λ (k : Stream). k.finished) f.stream ∙ c.requires.«open») (ap (λ (k : Stream). k.fed) f.stream) f.inside
    (f.stands bytes given s.stands) (λ k less. f.first k less bytes given s.stands)
    (c.waiting-self.ensures.some, c.waiting-self.ensures.none) s
