-- What one of the feeds has of a frame, by the record that waits. No public clause cites this module.
use Rattle.std.specs.Prelude.{ℕ, ◌==◌, is_some, Bool, List, Option, Some, None, if◌then◌else◌}
use Rattle.frame_groups.specs.Modulated.{FrameRecord, Numbered}
use Rattle.frame_groups.specs.declared.waiting.Waiting.{Waiting}
use Rattle.feed_merge.specs.Groups.{AreGroups}
use Rattle.feed_merge.specs.FeedStandsFor.{FrameFeedStandsFor, config_of}
use Rattle.feed_merge.specs.declared.feed.FrameFeed.{FrameFeed}
use Rattle.compare_run.specs.declared.answer.Side.{Side}
use Rattle.compare_run.specs.declared.answer.Side.TheVariants.{Absent, Muted, Whole}

-- by whether it is muted
abbrev pub side_by : Bool → Side
side_by muted = if muted then Muted else Whole

abbrev pub side_at : ℕ → Option Waiting → Side
side_at n None = Absent
side_at n (Some w) = if w.frame == n then side_by (is_some w.mute) else Absent

-- These are the groups of some stream that begins with the bytes with which a feed was fed.
pub record IsOfFeed (f : FrameFeed) (gs : List Numbered) : Type 0 where
  pub bytes : List ℕ
  pub ended : Bool
  pub given : List FrameRecord
  pub stands : FrameFeedStandsFor f bytes ended given
  pub groups : AreGroups (config_of f) bytes ended gs
