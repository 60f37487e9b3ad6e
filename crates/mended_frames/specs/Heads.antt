-- Which frame is next, by what the feeds show.
use Rattle.std.specs.Prelude.{◌≡◌, ℕ, zero, suc, ◌<◌, Bool, true, false, List, [], ◌∷◌, ◌++◌, length, slice_get, Option}
use Rattle.std.specs.Prelude.{Some, None}
use Rattle.std.specs.Option.{option_map_or}
use Rattle.frame_groups.specs.Groups.{Group}
use Rattle.feed_events.specs.FeedEvents.{FeedEvent}
use Rattle.feed_events.specs.FeedEvents.FeedEvent.{Has, Silent}
use Rattle.feed_events.specs.declared.course.Head.{Head}
use Rattle.feed_events.specs.declared.course.Head.TheVariants as head
use Rattle.feed_events.specs.StandsFor.{EventFeedStandsFor, head_of, group_of, fed_of, left_of, has_ended, shown}
use Rattle.feed_events.specs.declared.feed.EventFeed.{EventFeed}
use Rattle.frame_groups.specs.declared.group.OpenGroup as OpenGroup
use Rattle.mended_frames.specs.Picks.{Coming, lesser, is_number}

-- the number of the frame that is next
abbrev pub number_at : Head → Option ℕ
number_at head.Unknown = None
number_at (head.Frame n) = Some n
number_at head.Silent = None
number_at head.Over = None

-- the least of so many feeds
abbrev pub least_head : ℕ → (ℕ → Head) → Option ℕ
least_head zero heads = None
least_head (suc k) heads = lesser (least_head k heads) (number_at (heads k))

-- What is next is passed: packets of a frame, or perhaps a silence.
abbrev pub is_passed : Option ℕ → Bool → Head → Bool
is_passed number silent head.Unknown = false
is_passed number silent (head.Frame n) = is_number number n
is_passed number silent head.Silent = silent
is_passed number silent head.Over = false

-- What is known of a feed begins with what it shows.
abbrev pub Begins : Head → Coming → Type 0
Begins head.Unknown x = Unit {0}
Begins (head.Frame n) x = (g : Group) × (more : List FeedEvent)
    × (x.events ≡ Has (record { number = n; group = g }) ∷ more)
Begins head.Silent x = (more : List FeedEvent) × (x.events ≡ Silent ∷ more)
Begins head.Over x = (x.events ≡ []) × (x.over ≡ true)

-- ---- of feeds in a row

abbrev pub head_at : {G : Type 0} {o : OpenGroup.Ghosts G} → List (EventFeed G o) → ℕ → Head
head_at feeds i = option_map_or head_of (slice_get feeds i) head.Over

-- A feed passed what is next, if it was to, and else is as it was.
pub record Passes {G : Type 0} {o : OpenGroup.Ghosts G} (old new : EventFeed G o) : Type 0 where
  pub stands : (bytes : List ℕ) (gone : List FeedEvent) → (h : EventFeedStandsFor o old bytes gone)
      → EventFeedStandsFor o new bytes (gone ++ shown old h.group)
  pub left : left_of new < left_of old
  pub fed : fed_of new ≡ fed_of old
  pub rules : o.rules (group_of new) ≡ o.rules (group_of old)
  pub ended : has_ended new ≡ has_ended old

abbrev pub PassesIf : {G : Type 0} {o : OpenGroup.Ghosts G} → Bool → EventFeed G o → EventFeed G o → Type 0
PassesIf true old new = Passes old new
PassesIf false old new = new ≡ old

-- So it is of each.
pub record AllPass {G : Type 0} {o : OpenGroup.Ghosts G} (number : Option ℕ) (silent : Bool)
    (old new : List (EventFeed G o))
    : Type 0 where
  pub len : length new ≡ length old
  pub each : (i : ℕ) (f : EventFeed G o) → slice_get old i ≡ Some f
      → (g : EventFeed G o) × (slice_get new i ≡ Some g) × PassesIf (is_passed number silent (head_of f)) f g
