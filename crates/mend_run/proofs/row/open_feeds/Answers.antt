use Rattle.mended_frames.specs.StandsFor.{Feed}
use Rattle.mend_run.proofs.RowLemmas.{come_pushed, of_pushed}
use Rattle.mend_run.proofs.row.open_feeds.Goals as goal

pub loop-preserved : goal.loop-preserved
loop-preserved c =
    let k = c.args.plan.now in
    let feeds = c.loop.feeds.items in
    let f : Feed = c.in_ok-open_feed.field-0 in
    record {
      come = rw c.in_ok-push.ensures.items
          (come_pushed k c.loop.counter feeds f c.loop.invariant.come c.in_ok-open_feed.ensures);
      of = rw c.in_ok-push.ensures.items (of_pushed k feeds f c.loop.invariant.of
          c.in_ok-open_feed.ensures);
    }
