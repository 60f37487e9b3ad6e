use Rattle.std.proofs.Common.{◌≡◌, ◌<◌, ℕ, true}
use Rattle.feed_events.specs.StandsFor.{is_known}
use Rattle.mended_frames.specs.Heads.{head_at}
use Rattle.mended_frames.proofs.heads.waiting.Given as goal

abbrev pub invariant-loop-i : goal.invariant-loop-i
invariant-loop-i g l = (i : ℕ) → i < l.i → is_known (head_at l.feeds i) ≡ true
