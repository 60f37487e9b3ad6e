use Rattle.feed_merge.proofs.SkipLemmas.{skips_none, skips_one}
use Rattle.feed_merge.proofs.skipping.skip_if.Goals as goal

pub returns-then-leaves : goal.returns-then-leaves
returns-then-leaves c =
    let s = c.skip.ensures in
    skips_one c.args.leaves c.args.feed.now c.skip.new.self c.if-leaves.true s.skips s.left
    (record { fed = s.fed; ended = s.ended; network = s.config })

pub returns-else-leaves : goal.returns-else-leaves
returns-else-leaves c = skips_none c.args.leaves c.args.feed.now c.if-leaves.false
