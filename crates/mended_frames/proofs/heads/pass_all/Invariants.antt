use Rattle.std.proofs.Common.{◌≡◌, ◌<◌, ◌≤◌, ℕ, Some, length}
use Rattle.std.specs.Prelude.{slice_get}
use Rattle.feed_events.specs.StandsFor.{head_of}
use Rattle.feed_events.specs.declared.feed.EventFeed.{EventFeed}
use Rattle.mended_frames.specs.Heads.{is_passed, PassesIf}
use Rattle.mended_frames.proofs.heads.pass_all.Given as goal

abbrev pub invariant-loop-feed : goal.invariant-loop-feed
invariant-loop-feed g l = record {
  len : length l.feeds ≡ length l.initial.feeds;
  done : (i : ℕ) (f : EventFeed g.row.G.Denot g.G.OpenGroup) → i < l.feed-index → slice_get l.initial.feeds i ≡ Some f
      → (h : EventFeed g.row.G.Denot g.G.OpenGroup) × (slice_get l.feeds i ≡ Some h)
      × PassesIf (is_passed l.number l.silent (head_of f)) f h;
  left : (i : ℕ) → l.feed-index ≤ i → slice_get l.feeds i ≡ slice_get l.initial.feeds i;
}
