-- Which frames come next of several feeds, by their events.
use Rattle.std.specs.Prelude.{ℕ, zero, suc, ◌+◌, ◌==◌, ◌||◌, not, min, nat_lt, Bool, true, false, List, [], ◌∷◌, ◌++◌}
use Rattle.std.specs.Prelude.{length, Option, Some, None, if◌then◌else◌}
use Rattle.std.specs.List.{flat_map, range_with_len}
use Rattle.frame_groups.specs.Groups.{Group}
use Rattle.feed_events.specs.FeedEvents.{FeedEvent}
use Rattle.feed_events.specs.FeedEvents.FeedEvent.{Has, Silent}

-- what is known of a feed: its events, and whether it has no others
pub record Coming : Type 0 where
  pub events : List FeedEvent
  pub over : Bool

-- It is not known what is next in the feed.
abbrev pub waits_by : List FeedEvent → Bool → Bool
waits_by [] over = not over
waits_by (e ∷ events) over = false

-- so it is in one of so many feeds
abbrev pub one_waits : ℕ → (ℕ → Coming) → Bool
one_waits zero feeds = false
one_waits (suc k) feeds = one_waits k feeds || waits_by (feeds k).events (feeds k).over

-- the number of the frame whose packets are next in a feed, if there is one
abbrev pub number_next : List FeedEvent → Option ℕ
number_next [] = None
number_next (Has x ∷ events) = Some x.number
number_next (Silent ∷ events) = None

abbrev pub lesser : Option ℕ → Option ℕ → Option ℕ
lesser None b = b
lesser (Some m) None = Some m
lesser (Some m) (Some n) = Some (min m n)

-- the least of so many feeds
abbrev pub least_next : ℕ → (ℕ → Coming) → Option ℕ
least_next zero feeds = None
least_next (suc k) feeds = lesser (least_next k feeds) (number_next (feeds k).events)

abbrev pub is_number : Option ℕ → ℕ → Bool
is_number None n = false
is_number (Some m) n = m == n

-- the packets of a frame, in the feeds in which they are next
abbrev pub group_next : ℕ → List FeedEvent → List Group
group_next n [] = []
group_next n (Has x ∷ events) = if n == x.number then x.group ∷ [] else []
group_next n (Silent ∷ events) = []

abbrev pub groups_next : ℕ → ℕ → (ℕ → Coming) → List Group
groups_next n k feeds = flat_map (λ i. group_next n (feeds i).events) (range_with_len 0 k)

-- the events of a feed behind its packets of a frame, and perhaps behind a silence, if they are next
abbrev pub behind : Option ℕ → Bool → List FeedEvent → List FeedEvent
behind number silent [] = []
behind number silent (Has x ∷ events) = if is_number number x.number then events else Has x ∷ events
behind number silent (Silent ∷ events) = if silent then events else Silent ∷ events

abbrev pub all_behind : Option ℕ → Bool → (ℕ → Coming) → ℕ → Coming
all_behind number silent feeds = λ i. record { events = behind number silent (feeds i).events; over = (feeds i).over }

-- a frame, and its packets in the feeds that have some
pub record Picked : Type 0 where
  pub number : ℕ
  pub groups : List Group

-- what is done with the frames that are picked, one after another: from which number on they are, what is made of one,
-- and what is known then
pub record Taking (S X : Type 0) : Type 0 where
  pub low : S → ℕ
  pub made : S → Picked → List X
  pub behind : S → Picked → S

abbrev pub picked_of : ℕ → ℕ → (ℕ → Coming) → Picked
picked_of n k feeds = record { number = n; groups = groups_next n k feeds }

-- The least number is next; one that is too low is passed over. A silence gives its feed up for one frame, so a feed
-- that is given up holds no other up. Where no feed has packets next, silences are passed over.
abbrev pub pick_next : {S X : Type 0} → Taking S X → Option ℕ → ℕ → S → (ℕ → Coming) → (S → (ℕ → Coming) → List X)
    → List X
pick_next t None k s feeds rest = rest s (all_behind None true feeds)
pick_next t (Some n) k s feeds rest =
    if nat_lt n (t.low s) then rest s (all_behind (Some n) false feeds)
    else t.made s (picked_of n k feeds) ++ rest (t.behind s (picked_of n k feeds)) (all_behind (Some n) true feeds)

-- It ends where it is not known what is next in a feed. So many steps are made at most.
abbrev pub picked_from : {S X : Type 0} → Taking S X → ℕ → ℕ → S → (ℕ → Coming) → List X
picked_from t zero k s feeds = []
picked_from t (suc steps) k s feeds = if one_waits k feeds then []
    else pick_next t (least_next k feeds) k s feeds (λ s feeds. picked_from t steps k s feeds)

-- how many events so many feeds have; each step passes one
abbrev pub events_in : ℕ → (ℕ → Coming) → ℕ
events_in zero feeds = 0
events_in (suc k) feeds = events_in k feeds + length (feeds k).events

-- all that is made of so many feeds
abbrev pub picks_from : {S X : Type 0} → Taking S X → ℕ → S → (ℕ → Coming) → List X
picks_from t k s feeds = picked_from t (events_in k feeds) k s feeds
