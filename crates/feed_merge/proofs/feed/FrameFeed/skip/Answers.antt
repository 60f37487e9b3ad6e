use Rattle.std.proofs.Common.{ap, sym, ◌∙◌}
use Rattle.modulator.specs.Modulating.{Stream}
use Rattle.modulator.proofs.TookLemmas.{some_of}
use Rattle.feed_merge.proofs.FeedLemmas.{skipped, told, early_on}
use Rattle.feed_merge.proofs.feed.FrameFeed.skip.Goals as goal

pub returns-clause-skips : goal.returns-clause-skips
returns-clause-skips c = λ bytes ended given s.
    let f = c.gave.ensures in
    let w = some_of c.args.self.now.waiting c.requires.waits in
    skipped c.args.self.now _ bytes ended given w.0 w.1 (ap (λ (k : Stream). k.network) f.stream)
    (ap (λ (k : Stream). k.finished) f.stream) (ap (λ (k : Stream). k.fed) f.stream)
    (told c.args.self.now c.waiting-waiting.result (c.waiting-waiting.ensures.is ∙ sym c.args.self.now.waits)
    (c.waiting-waiting.ensures.some, c.waiting-waiting.ensures.none)) f.stands
    (c.waiting-self.ensures.some, c.waiting-self.ensures.none) s

pub invariant_of-self-clause-early : goal.invariant_of-self-clause-early
invariant_of-self-clause-early c =
    let f = c.args.self.now in
    let w = some_of f.waiting c.requires.waits in
    early_on f.inner.sequence.progress c.gave.new.self.sequence.progress w.0 (sym f.waits ∙ w.1)
    (c.requires.early w.0 w.1)
    c.gave.ensures.next
