use Rattle.feed_merge.proofs.PickLemmas.{picks_are_frames}
use Rattle.feed_merge.proofs.laws.picks_law.Goals as goal

pub returns : goal.returns
returns c =
    picks_are_frames c.sent_law.ensures.frames c.stream_law.ensures c.tests_law.ensures c.frame_law.ensures
    c.honest_law.ensures.length c.honest_law.ensures.records
