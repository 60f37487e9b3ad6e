-- Feeds of a network in a row, and how they can go on. No public clause cites this module.
use Rattle.std.specs.Prelude.{◌≡◌, ℕ, suc, ◌+◌, ◌<◌, ◌≤◌, Bool, true, false, List, [], ◌∷◌, ◌++◌, length, slice_get}
use Rattle.std.specs.Prelude.{Option, Some, None, option_map, if◌then◌else◌}
use Rattle.plp_config.specs.declared.config.Config.{Config}
use Rattle.ts_packet.specs.declared.sizes.TheConstants.{SIZE}
use Rattle.frame_groups.specs.Modulated.{Rules}
use Rattle.frame_groups.specs.Tests.{rules}
use Rattle.feed_events.specs.Arrivals.{Arrival}
use Rattle.feed_events.specs.FeedEvents.{FeedEvent, feed_events}
use Rattle.feed_events.specs.StandsFor.{EventFeedStandsFor, CanBecome, IsNext, has_ended, head_of, left_of, is_known}
use Rattle.feed_events.specs.declared.course.Head.TheVariants as head
use Rattle.mended_frames.specs.Heads.{head_at, is_passed}
use Rattle.mended_frames.specs.Picks.{Coming, all_behind}
use Rattle.frame_weave.specs.contracts.group.MarkedGroupOpenGroup.TheImpl as marked
use Rattle.mended_frames.specs.StandsFor.{Feed, pooled_of}
use Rattle.file_run.specs.Events.{Event, fed}
use Rattle.file_run.specs.Events as events
use Rattle.file_run.specs.FileRun.{read_ahead}
use Rattle.file_run.specs.declared.machine.Step.{Step}
use Rattle.file_run.specs.declared.machine.Step.TheVariants.{Read, Give}

-- the first feed of which it is not known what is next
abbrev pub first_waiting : List Feed → Option ℕ
first_waiting [] = None
first_waiting (f ∷ feeds) = if is_known (head_of f) then option_map suc (first_waiting feeds) else Some 0

-- It wants a unit of an input, if it is not known what is next in its feed.
abbrev pub wants : Option ℕ → Step
wants None = Give
wants (Some input) = Read input SIZE read_ahead

-- no fewer than the events that can be passed before bytes are wanted
abbrev pub left_in : List Feed → ℕ
left_in [] = 0
left_in (f ∷ feeds) = left_of f + left_in feeds

abbrev pub rules_of : Feed → Rules
rules_of f = rules (pooled_of f).network

-- How a feed can go on behind bytes: all that is known of it then, and what of that comes behind the events that were
-- passed.
pub record Goes (c : Config) (f : Feed) (bytes : List ℕ) (gone : List FeedEvent) (x y : Coming) : Type 0 where
  pub all : List ℕ
  pub later : List Arrival
  pub can : CanBecome (has_ended f) c.pid bytes x.over all later
  pub is : x.events ≡ feed_events (rules c) x.over all
  pub parts : x.events ≡ gone ++ y.events
  pub over : y.over ≡ x.over

-- What a feed shows is next, however it goes on; if it shows nothing, nothing is known but the events that were passed.
pub record Shows (f : Feed) : Type 0 where
  pub next : (bytes : List ℕ) (gone : List FeedEvent) (h : EventFeedStandsFor marked.ghosts f bytes gone) (ended : Bool)
      (all : List ℕ) (later : List Arrival) → CanBecome (has_ended f) (rules_of f).network.pid bytes ended all later
      → IsNext (head_of f) h.group ended gone (feed_events (rules_of f) ended all)
  pub unknown : head_of f ≡ head.Unknown → (bytes : List ℕ) (gone : List FeedEvent)
      → EventFeedStandsFor marked.ghosts f bytes gone
      → feed_events (rules_of f) false bytes ≡ gone

-- A feed of a network was fed with bytes, perhaps to their end, and these events were passed.
pub record FeedHas (c : Config) (f : Feed) (bytes : List ℕ) (ended : Bool) (gone : List FeedEvent) : Type 0 where
  pub network : (pooled_of f).network ≡ c
  pub stands : EventFeedStandsFor marked.ghosts f bytes gone
  pub end : has_ended f ≡ ended
  pub shows : Shows f

-- So it is of so many feeds, each with the input at its place.
pub record HaveCome (c : Config) (k : ℕ) (feeds : List Feed) (done : List Event) (gone : ℕ → List FeedEvent) :
    Type 0 where
  pub count : length feeds ≡ k
  pub each : (i : ℕ) (f : Feed) → slice_get feeds i ≡ Some f → FeedHas c f (fed i done) (events.has_ended i done)
      (gone i)

-- They can go on so.
abbrev pub AllGo : Config → List Feed → List Event → (ℕ → List FeedEvent) → (ℕ → Coming) → (ℕ → Coming) → Type 0
AllGo c feeds done gone xs ys = (i : ℕ) (f : Feed) → slice_get feeds i ≡ Some f
    → Goes c f (fed i done) (gone i) (xs i) (ys i)

-- Bytes of an input came, or its end. Nothing was known of it but the events that were passed, by all of its bytes but
-- the last one at most.
pub record LastCame (c : Config) (k : ℕ) (before done : List Event) (gone : ℕ → List FeedEvent) : Type 0 where
  pub input : ℕ
  pub inside : input < k
  pub going : events.has_ended input before ≡ false
  pub part : List ℕ
  pub last : List ℕ
  pub parts : fed input done ≡ (fed input before ++ part) ++ last
  pub few : length last ≤ 1
  pub none : feed_events (rules c) false (fed input before ++ part) ≡ gone input

-- Something was done to them: they stand for it, and as they can go on now they could before.
pub record GoOn (c : Config) (k : ℕ) (old new : List Feed) (before done : List Event) (gone : ℕ
    → List FeedEvent) : Type 0 where
  pub come : HaveCome c k new done gone
  pub back : (xs ys : ℕ → Coming) → AllGo c new done gone xs ys → AllGo c old before gone xs ys
  pub last : LastCame c k before done gone

-- The same feeds have these events next.
abbrev pub AreSame : ℕ → (ℕ → Coming) → (ℕ → Coming) → Type 0
AreSame k xs ys = (i : ℕ) → i < k → xs i ≡ ys i

-- What was next in them was passed, if it was the packets of a frame, or perhaps a silence.
pub record Pass (c : Config) (k : ℕ) (number : Option ℕ) (silent : Bool) (old new : List Feed) (done : List Event)
    (gone : ℕ → List FeedEvent) : Type 0 where
  pub past : ℕ → List FeedEvent
  pub come : HaveCome c k new done past
  pub back : (xs ys : ℕ → Coming) → AllGo c new done past xs ys
      → (zs : ℕ → Coming) × AllGo c old done gone xs zs × AreSame k (all_behind number silent zs) ys

-- It is known of each what is next.
abbrev pub AllKnown : List Feed → Type 0
AllKnown feeds = (i : ℕ) → is_known (head_at feeds i) ≡ true

-- Something was passed.
pub record OnePasses (number : Option ℕ) (silent : Bool) (feeds : List Feed) : Type 0 where
  pub input : ℕ
  pub inside : input < length feeds
  pub passed : is_passed number silent (head_at feeds input) ≡ true
