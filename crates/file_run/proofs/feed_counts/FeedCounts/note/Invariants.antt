use Rattle.std.proofs.Common.{◌≡◌}
use Rattle.file_run.proofs.feed_counts.FeedCounts.note.Given as goal

abbrev pub invariant-loop-feed : goal.invariant-loop-feed
invariant-loop-feed g l = g.D.Desk.state l.desk ≡ g.D.Desk.state l.initial.desk
