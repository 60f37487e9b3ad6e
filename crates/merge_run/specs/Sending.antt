-- The frame that waits in a feed is sent. No public clause cites this module.
use Rattle.std.specs.Prelude.{◌≡◌, ℕ, ◌+◌, ◌*◌, ◌≤◌, Bool, false, List, [], ◌∷◌, ◌++◌, length}
use Rattle.plp_config.specs.Capacity.{IsPlan}
use Rattle.plp_config.specs.declared.config.Config.{Config}
use Rattle.t2mi_packet.specs.declared.packet.Body.{Body}
use Rattle.frame_groups.specs.Groups.{Group}
use Rattle.frame_groups.specs.Modulated.{FrameRecord}
use Rattle.frame_groups.specs.Modulated.Content.{Whole}
use Rattle.frame_writer.specs.Flowing.{packet_bound}
use Rattle.open_group.specs.Written.{content_view}
use Rattle.modulator.specs.StandsFor.{records_due}
use Rattle.stream_laws.specs.Remade.{NumberedView, numbered, remade_bodies, view_bodies}
use Rattle.feed_merge.specs.Frames.{dynamic_of, lists_of}
use Rattle.feed_merge.specs.FeedStandsFor.{FrameFeedStandsFor}
use Rattle.feed_merge.specs.FeedStandsFor as feed
use Rattle.feed_merge.specs.declared.feed.FrameFeed.{FrameFeed}
use Rattle.feed_merge.specs.StandsFor.{MergerStandsFor, config_of, left_by, has_finished, bytes_left}
use Rattle.feed_merge.specs.declared.merger.Merger.{Merger}

-- the frame of a record
abbrev pub frame_by : Config → FrameRecord → NumberedView
frame_by c x = numbered x.number (content_view c x.number x.content)

-- what is left of the frame that waits in a feed
abbrev pub left_for : Merger → FrameFeed → List Body
left_for g f = left_by g (dynamic_of f) (lists_of f)

-- A frame was begun, of which these are left.
pub record BeginsAs (old new : Merger) (left : List Body) (frame : NumberedView) : Type 0 where
  pub stands : (frames : List NumberedView) (count : ℕ) → MergerStandsFor old [] (remade_bodies (config_of old) frames)
      count
      → MergerStandsFor new left (remade_bodies (config_of old) (frames ++ frame ∷ [])) count
  pub more : bytes_left new left
      ≤ bytes_left old [] + packet_bound * length (view_bodies (config_of old) frame.number frame.view)

-- It is that of the record that waits in a feed, with this number.
pub record Begins (old new : Merger) (f : FrameFeed) (number : ℕ) : Type 0 where
  pub begun : feed.config_of f ≡ config_of old → IsPlan (config_of old)
      → (bytes : List ℕ) (ended : Bool) (given : List FrameRecord) → FrameFeedStandsFor f bytes ended given
      → (x : FrameRecord) (later : List FrameRecord) → records_due (config_of old) ended bytes ≡ given ++ x ∷ later
      → (g : Group) → x.content ≡ Whole g → x.number ≡ number → BeginsAs old new (left_for new f)
      (frame_by (config_of old) x)
  pub config : config_of new ≡ config_of old
  pub finished : has_finished new ≡ false
