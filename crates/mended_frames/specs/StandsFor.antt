-- What a mender of frames stands for.
use Rattle.std.specs.Prelude.{◌≡◌, ℕ, ◌==◌, Bool, true, false, option_map, List, [], ◌∷◌, slice_get, Option, Some, ◌<◌}
use Rattle.std.specs.Prelude.{length}
use Rattle.std.specs.Option.{option_map_or}
use Rattle.plp_config.specs.declared.config.Config.{Config}
use Rattle.frame_groups.specs.Groups.{Group}
use Rattle.frame_groups.specs.Modulated.{Numbered}
use Rattle.feed_events.specs.StandsFor.{head_of, group_of}
use Rattle.feed_events.specs.declared.course.Head.{Head}
use Rattle.feed_events.specs.declared.course.Head.TheVariants as head
use Rattle.feed_events.specs.declared.feed.EventFeed.{EventFeed}
use Rattle.frame_weave.specs.Weaves.{IsOwn}
use Rattle.frame_weave.specs.Holds.{HoldsMarked}
use Rattle.frame_weave.specs.contracts.group.MarkedGroupOpenGroup.TheImpl as marked
use Rattle.frame_weave.specs.declared.group.MarkedGroup.{MarkedGroup}
use Rattle.open_group.specs.FrameBytes.{is_frame, dynamic_of, lists_of}
use Rattle.open_group.specs.Holds.{Holds}
use Rattle.open_group.specs.HoldsPast.{HoldsPast}
use Rattle.open_group.specs.declared.group.PooledGroup.{PooledGroup}
use Rattle.mended_frames.specs.Picks.{Picked}
use Rattle.spaced_frames.specs.StandsFor.{Content}
use Rattle.mended_frames.specs.Mended.{made_of, made_as}
use Rattle.mended_frames.specs.declared.mender.Mender.{Mender}
use Rattle.mended_frames.specs.declared.mender.Source.{Source}
use Rattle.mended_frames.specs.declared.mender.Source.TheVariants as source

-- a feed over a group with marks
abbrev pub Feed : Type 0
Feed = EventFeed MarkedGroup marked.ghosts

-- the packets of a feed's group, without marks
abbrev pub pooled_of : Feed → PooledGroup
pooled_of f = (group_of f).group

-- Packets of frame n are next in a feed.
abbrev pub is_at : ℕ → Head → Bool
is_at n head.Unknown = false
is_at n (head.Frame m) = m == n
is_at n head.Silent = false
is_at n head.Over = false

-- A group is next in a feed, and others in the feeds behind it.
pub record HasNext (f : Feed) (Others : List Group → Type 0) (gs : List Group) : Type 0 where
  pub group : Group
  pub own : List Numbered
  pub holds : HoldsMarked (group_of f) own (Some group)
  pub more : List Group
  pub are : gs ≡ group ∷ more
  pub others : Others more

abbrev pub HasIf : Bool → Feed → (List Group → Type 0) → List Group → Type 0
HasIf true f Others gs = HasNext f Others gs
HasIf false f Others gs = Others gs

-- These groups of frame n are next, feed by feed.
abbrev pub HaveGroups : ℕ → List Feed → List Group → Type 0
HaveGroups n [] gs = gs ≡ []
HaveGroups n (f ∷ feeds) gs = HasIf (is_at n (head_of f)) f (HaveGroups n feeds) gs

-- The feeds are of a network.
abbrev pub AreOf : Config → List Feed → Type 0
AreOf c feeds = (i : ℕ) (f : Feed) → slice_get feeds i ≡ Some f → (pooled_of f).network ≡ c

-- These frames were made, the last one in front.
pub record MenderStandsFor (m : Mender) (past : List Numbered) : Type 0 where
  pub holds : HoldsPast m.plan.now m.past past
  pub own : IsOwn m.weaver

-- A group is lent: by a feed, or it was woven.
abbrev pub lent_by : Source → Mender → List Feed → Option PooledGroup
lent_by (source.Feed i) m feeds = option_map pooled_of (slice_get feeds i)
lent_by source.Woven m feeds = Some m.weaver.made.group

-- what is sent of it
abbrev pub nothing : Content
nothing = record { pre = []; conf = []; dynamic = []; lists = [] }

abbrev pub held_content : Mender → PooledGroup → Content
held_content m g = record {
  pre = m.signalling.pre;
  conf = m.signalling.conf;
  dynamic = dynamic_of g;
  lists = lists_of g;
}

abbrev pub lent_content : Source → Mender → List Feed → Content
lent_content from m feeds = option_map_or (held_content m) (lent_by from m feeds) nothing

abbrev pub is_woven_by : Source → Bool
is_woven_by (source.Feed i) = false
is_woven_by source.Woven = true

-- the groups of a frame
abbrev pub picked_as : ℕ → List Group → Picked
picked_as n gs = record { number = n; groups = gs }

-- A feed is there, of the network, and what is next in it can be given as a frame.
pub record FeedCanLend (c : Config) (feeds : List Feed) (i : ℕ) : Type 0 where
  pub inside : i < length feeds
  pub network : (f : Feed) → slice_get feeds i ≡ Some f → (pooled_of f).network ≡ c
  pub frame : (f : Feed) → slice_get feeds i ≡ Some f → is_frame (pooled_of f) ≡ true

-- So can what one lends.
abbrev pub CanLend : Source → Mender → List Feed → Type 0
CanLend (source.Feed i) m feeds = FeedCanLend m.plan.now feeds i
CanLend source.Woven m feeds = is_frame m.weaver.made.group ≡ true

-- If a feed lends frame n, packets of it are next there.
abbrev pub IsNextIn : ℕ → Source → List Feed → Type 0
IsNextIn n (source.Feed i) feeds = (f : Feed) → slice_get feeds i ≡ Some f → is_at n (head_of f) ≡ true
IsNextIn n source.Woven feeds = Unit {0}

-- A frame is made, and one lends it.
pub record Makes (m : Mender) (feeds : List Feed) (past : List Numbered) (p : Picked) (from : Source) : Type 0 where
  pub group : Group
  pub made : made_of m.plan.now past p ≡ Some (made_as p.number (is_woven_by from) group)
  pub stands : MenderStandsFor m (record { number = p.number; group = group } ∷ past)
  pub lent : PooledGroup
  pub is : lent_by from m feeds ≡ Some lent
  pub own : List Numbered
  pub holds : Holds lent own (Some group)
