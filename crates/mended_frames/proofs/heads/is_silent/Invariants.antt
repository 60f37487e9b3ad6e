use Rattle.std.proofs.Common.{◌≢◌, ◌<◌, ℕ}
use Rattle.feed_events.specs.declared.course.Head.TheVariants as head
use Rattle.mended_frames.specs.Heads.{head_at}
use Rattle.mended_frames.proofs.heads.is_silent.Given as goal

abbrev pub invariant-loop-i : goal.invariant-loop-i
invariant-loop-i g l = (i : ℕ) → i < l.i → head_at l.feeds i ≢ head.Silent
