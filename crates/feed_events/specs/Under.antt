-- Events from a group under way on. No public clause cites this module.
use Rattle.std.specs.Prelude.{◌≡◌, ℕ, Bool, true, false, List, [], ◌∷◌, ◌++◌, Option, Some, None, if◌then◌else◌}
use Rattle.std.specs.List.{filter}
use Rattle.t2mi_packet.specs.declared.packet.Packet.{Packet}
use Rattle.frame_groups.specs.Grouping.{grouped_from, all_groups}
use Rattle.frame_groups.specs.Groups.{Group, is_counted}
use Rattle.frame_groups.specs.Modulated.{Numbered, Rules}
use Rattle.feed_events.specs.Arrivals.{Arrival}
use Rattle.feed_events.specs.FeedEvents.{FeedEvent, has_stamp, number_of, event_of, numbered_from, closed_of}
use Rattle.feed_events.specs.FeedEvents.{between_idle, events_between}
use Rattle.feed_events.specs.FeedEvents.FeedEvent.{Has, Silent}
use Rattle.feed_events.specs.declared.course.Course.{Course}
use Rattle.feed_events.specs.declared.course.Head.{Head}
use Rattle.feed_events.specs.declared.course.Head.TheVariants as head

-- the groups of packets behind a group under way
abbrev pub groups_behind : ℕ → Option Group → List Packet → List Group
groups_behind frames under ps = all_groups (grouped_from (record { closed = []; under_way = under })
    (filter (is_counted frames) ps))

-- what comes behind a group under way, or behind none, and behind a number
abbrev pub events_under : Rules → Bool → Option Group → Option ℕ → List (List Packet) → List FeedEvent
events_under r ended under last [] = []
events_under r ended under last (ps ∷ []) = numbered_from r last (closed_of ended (groups_behind r.frames under ps))
events_under r ended under last (ps ∷ qs ∷ more) =
    numbered_from r last (groups_behind r.frames under ps) ++ Silent ∷ events_between r ended (qs ∷ more)

abbrev pub events_behind : Rules → Bool → Option Group → Option ℕ → List Arrival → List FeedEvent
events_behind r ended under last xs = events_under r ended under last (between_idle xs)

-- what a closed group shows, by its number
abbrev pub head_of : Option ℕ → Head
head_of None = head.Unknown
head_of (Some n) = head.Frame n

-- the event that is next, if it is known; a frame's is that of a group
abbrev pub head_events : Head → Option Group → List FeedEvent
head_events head.Unknown g = []
head_events (head.Frame n) None = []
head_events (head.Frame n) (Some g) = Has (record { number = n; group = g }) ∷ []
head_events head.Silent g = Silent ∷ []
head_events head.Over g = []

abbrev pub under_of : Bool → Option Group → Option Group
under_of under_way g = if under_way then g else None

-- before any packet
abbrev pub start : Course
start = record { head = head.Unknown; under_way = false; stamped = false; last = None }

-- all events from a course on, by what arrives
abbrev pub course_events : Rules → Course → Option Group → Bool → List Arrival → List FeedEvent
course_events r course g ended xs = head_events course.head g ++ events_behind r ended (under_of course.under_way g)
    course.last xs

-- The group that is held is the one of a course.
pub record IsHeld (Holds : List Numbered → Option Group → Type 0) (course : Course) (g : Option Group) : Type 0 where
  pub own : List Numbered
  pub holds : Holds own g
  pub stamped : course.under_way ≡ true → (h : Group) → g ≡ Some h → course.stamped ≡ has_stamp h.packets

-- What arrives next closes the group under way of a course, if there is one.
abbrev pub IsClosed : Rules → Course → Option Group → Bool → List Arrival → Type 0
IsClosed r course g ended xs = (h : Group) → under_of course.under_way g ≡ Some h
    → events_behind r ended (Some h) course.last xs
    ≡ event_of (number_of r course.last h) h ++ events_behind r ended None (number_of r course.last h) xs

-- Then another course comes to the same.
abbrev pub SameIfClosed : Rules → Course → Course → Option Group → Type 0
SameIfClosed r old new g = (ended : Bool) (xs : List Arrival) → IsClosed r old g ended xs
    → course_events r new g ended xs ≡ course_events r old g ended xs

-- Something arrived, and more is left to arrive in place of it.
pub record Went (Holds : List Numbered → Option Group → Type 0) (r : Rules) (course : Course)
    (before : Bool → List Arrival → List FeedEvent) (arrived left : List Arrival) : Type 0 where
  pub group : Option Group
  pub held : IsHeld Holds course group
  pub same : (ended : Bool) (xs : List Arrival) → course_events r course group ended (left ++ xs) ≡ before
      ended (arrived ++ xs)

-- Nothing more arrives.
pub record Ended (Holds : List Numbered → Option Group → Type 0) (r : Rules) (course : Course)
    (before : Bool → List Arrival → List FeedEvent) : Type 0 where
  pub group : Option Group
  pub held : IsHeld Holds course group
  pub same : course_events r course group true [] ≡ before true []
