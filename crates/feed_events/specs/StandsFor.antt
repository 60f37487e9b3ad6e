-- What a feed of events stands for.
use Rattle.std.specs.Prelude.{◌≡◌, ℕ, ◌+◌, ◌-◌, ◌*◌, ◌/◌, ◌%◌, ◌<◌, ◌≤◌, Bool, true, false, List, [], ◌∷◌, ◌++◌, map}
use Rattle.std.specs.Prelude.{length, drop, Option, Some, if◌then◌else◌}
use Rattle.ts_packet.specs.declared.sizes.TheConstants.{SIZE}
use Rattle.t2mi_stream.specs.Events.{UnpiperEvent, fed, released}
use Rattle.t2mi_stream.specs.Units.{accepted_of}
use Rattle.t2mi_stream.specs.UnpiperStandsFor.{UnpiperStandsFor, steps_left, fed_len}
use Rattle.t2mi_stream.specs.declared.unpiper.Unpiper.{Unpiper}
use Rattle.frame_groups.specs.Groups.{Group}
use Rattle.frame_groups.specs.Modulated.{Numbered, Rules}
use Rattle.feed_events.specs.Arrivals.{Arrival, came_of, arrivals_from, idle_if}
use Rattle.feed_events.specs.FeedEvents.{FeedEvent, feed_events}
use Rattle.feed_events.specs.FeedEvents.FeedEvent.{Has, Silent}
use Rattle.feed_events.specs.Under.{IsHeld, head_events, course_events}
use Rattle.frame_groups.specs.declared.group.OpenGroup as OpenGroup
use Rattle.feed_events.specs.declared.course.Course.{Course}
use Rattle.feed_events.specs.declared.feed.EventFeed.{EventFeed}
use Rattle.feed_events.specs.declared.course.Head.{Head}
use Rattle.feed_events.specs.declared.course.Head.TheVariants as head

-- what arrives with more bytes behind whole units
abbrev pub arrivals_behind : ℕ → List ℕ → List ℕ → List Arrival
arrivals_behind pid bytes more =
    arrivals_from pid (bytes ++ more) (length bytes / SIZE) (length (bytes ++ more) / SIZE - length bytes / SIZE)

-- what arrived and was not yet worked off: the accepted packets that were not given up, and an idle unit
abbrev pub arrivals_left : ℕ → List UnpiperEvent → Bool → List Arrival
arrivals_left pid events idle = map came_of (drop (released events) (accepted_of pid (fed events))) ++ idle_if idle

-- How a feed can go on behind some bytes: with more bytes, to an end or not; and not at all, once it is at its end.
abbrev pub CanBecome : Bool → ℕ → List ℕ → Bool → List ℕ → List Arrival → Type 0
CanBecome false pid bytes ended all later = (more : List ℕ) × (all ≡ bytes ++ more)
    × (later ≡ arrivals_behind pid bytes more)
CanBecome true pid bytes ended all later = (ended ≡ true) × (all ≡ bytes) × (later ≡ [])

-- These bytes were fed, and these events were passed. They are the first of all events, however the feed goes on; what
-- follows them is told by the event that is shown, the group under way, and what arrives.
pub record EventsStandFor (Holds : List Numbered → Option Group → Type 0) (r : Rules) (u : Unpiper) (course : Course)
    (idle finished : Bool) (bytes : List ℕ) (gone : List FeedEvent) : Type 0 where
  pub events : List UnpiperEvent
  pub stands : UnpiperStandsFor u r.network.pid events
  pub few : released events ≤ length (accepted_of r.network.pid (fed events))
  pub whole : length (fed events) % SIZE ≡ 0
  pub tail : List ℕ
  pub bytes_are : bytes ≡ fed events ++ tail
  pub short : length tail < SIZE
  pub no_tail : finished ≡ false → tail ≡ []
  pub group : Option Group
  pub held : IsHeld Holds course group
  pub all : (ended : Bool) (all : List ℕ) (later : List Arrival) → CanBecome finished r.network.pid bytes
      ended all later
      → feed_events r ended all
      ≡ gone ++ course_events r course group ended (arrivals_left r.network.pid events idle ++ later)

-- What is shown is next behind the events that were passed; at an end nothing is.
abbrev pub IsNext : Head → Option Group → Bool → List FeedEvent → List FeedEvent → Type 0
IsNext head.Unknown g ended gone all = (more : List FeedEvent) × (all ≡ gone ++ more)
IsNext (head.Frame n) g ended gone all = (x : Group) × (g ≡ Some x) × ((more : List FeedEvent)
    × (all ≡ gone ++ Has (record { number = n; group = x }) ∷ more))
IsNext head.Silent g ended gone all = (more : List FeedEvent) × (all ≡ gone ++ Silent ∷ more)
IsNext head.Over g ended gone all = (ended ≡ true) × (all ≡ gone)

-- What is next is known.
abbrev pub is_known : Head → Bool
is_known head.Unknown = false
is_known (head.Frame n) = true
is_known head.Silent = true
is_known head.Over = true

-- It can be passed.
abbrev pub is_event : Head → Bool
is_event head.Unknown = false
is_event (head.Frame n) = true
is_event head.Silent = true
is_event head.Over = false

-- how many events the group under way and the one that is shown can make
abbrev pub events_of : Course → ℕ
events_of course = (if course.under_way then 1 else 0) + (if is_event course.head then 1 else 0)

-- no fewer than the events that can be passed before bytes are wanted
abbrev pub events_left : Unpiper → Course → Bool → ℕ
events_left u course idle = 2 * steps_left u + events_of course + (if idle then 1 else 0)

-- ---- of a feed over a group

-- what is next, the group that is held, how many bytes were fed, and no fewer than the events that can be passed before
-- bytes are wanted
abbrev pub head_of : {G : Type 0} {o : OpenGroup.Ghosts G} → EventFeed G o → Head
head_of f = f.frames.course.head

abbrev pub group_of : {G : Type 0} {o : OpenGroup.Ghosts G} → EventFeed G o → G
group_of f = f.frames.group

abbrev pub fed_of : {G : Type 0} {o : OpenGroup.Ghosts G} → EventFeed G o → ℕ
fed_of f = fed_len f.unpiper

abbrev pub left_of : {G : Type 0} {o : OpenGroup.Ghosts G} → EventFeed G o → ℕ
left_of f = events_left f.unpiper f.frames.course f.idle

-- whether no more bytes come
abbrev pub has_ended : {G : Type 0} {o : OpenGroup.Ghosts G} → EventFeed G o → Bool
has_ended f = f.finished

-- the event that is next, if it is known; a frame's is that of a group
abbrev pub shown : {G : Type 0} {o : OpenGroup.Ghosts G} → EventFeed G o → Option Group → List FeedEvent
shown f g = head_events (head_of f) g

abbrev pub EventFeedStandsFor : {G : Type 0} (o : OpenGroup.Ghosts G) → EventFeed G o → List ℕ → List FeedEvent → Type 0
EventFeedStandsFor o f bytes gone = EventsStandFor (o.holds f.frames.group) (o.rules f.frames.group)
    f.unpiper f.frames.course
    f.idle f.finished bytes gone
