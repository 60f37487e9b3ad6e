-- The events of a feed: the frames whose packets it has, each with its number, and its silences.
use Rattle.std.specs.Prelude.{ℕ, ◌+◌, ◌&&◌, nat_lt, Bool, true, false, List, [], ◌∷◌, ◌++◌, Option, Some, None}
use Rattle.std.specs.Prelude.{if◌then◌else◌}
use Rattle.std.specs.List.{list_any}
use Rattle.plp_config.specs.declared.moment.TheConstants.{MOST_FRAMES}
use Rattle.t2mi_packet.specs.declared.packet.Packet.{Packet}
use Rattle.frame_groups.specs.Groups.{Group, groups, is_same}
use Rattle.frame_groups.specs.Laws.{without_last}
use Rattle.frame_groups.specs.Modulated.{Numbered, Rules}
use Rattle.frame_groups.specs.Numbers.{frame_key}
use Rattle.frame_groups.specs.declared.key.Key.{Key}
use Rattle.t2mi_packet.specs.declared.packet.Body.{Body}
use Rattle.t2mi_packet.specs.declared.packet.Body.TheVariants.{Block, L1Current, Timestamp, Other}
use Rattle.feed_events.specs.Arrivals.{Arrival, arrivals}
use Rattle.feed_events.specs.Arrivals.Arrival.{Came, Idle}

-- a feed has packets of a frame, or says by an idle unit that nothing comes
pub data FeedEvent : Type 0 where
  Has : Numbered → FeedEvent
  Silent : FeedEvent

abbrev pub is_timestamp : Body → Bool
is_timestamp (Block frame_idx plp_id first bits) = false
is_timestamp (L1Current frame_idx pre conf dynamic extension) = false
is_timestamp (Timestamp stamp) = true
is_timestamp (Other packet_type bits) = false

abbrev pub is_stamp : Packet → Bool
is_stamp p = is_timestamp p.body

abbrev pub has_stamp : List Packet → Bool
has_stamp packets = list_any is_stamp packets

-- the number behind another, if it is that of a frame with a key
abbrev pub number_after : ℕ → Option ℕ → Key → Option ℕ
number_after frames None key = None
number_after frames (Some n) key = if nat_lt (n + 1) MOST_FRAMES && is_same (frame_key frames (n + 1))
    key then Some (n + 1) else None

-- The number of a group behind another: that of the frame which its first timestamp names; without a timestamp the next
-- one, if it has the key of that frame. So frames that lack are not counted over, but for those of a multiple of 16
-- superframes, to the frame.
abbrev pub number_of : Rules → Option ℕ → Group → Option ℕ
number_of r last g = if has_stamp g.packets then r.named g else number_after r.frames last g.key

abbrev pub event_of : Option ℕ → Group → List FeedEvent
event_of None g = []
event_of (Some n) g = Has (record { number = n; group = g }) ∷ []

-- groups one behind another, of which some have numbers
abbrev pub numbered_from : Rules → Option ℕ → List Group → List FeedEvent
numbered_from r last [] = []
numbered_from r last (g ∷ gs) = event_of (number_of r last g) g ++ numbered_from r (number_of r last g) gs

-- packets with one more in front
abbrev pub in_first : Packet → List (List Packet) → List (List Packet)
in_first p [] = (p ∷ []) ∷ []
in_first p (ps ∷ more) = (p ∷ ps) ∷ more

-- the packets before the first idle unit, between it and the next, and so on
abbrev pub between_idle : List Arrival → List (List Packet)
between_idle [] = [] ∷ []
between_idle (Came p ∷ xs) = in_first p (between_idle xs)
between_idle (Idle ∷ xs) = [] ∷ between_idle xs

-- the groups that are closed: all but the last, and at an end all
abbrev pub closed_of : Bool → List Group → List Group
closed_of true gs = gs
closed_of false gs = without_last gs

-- an idle unit closes the group under way; what is behind it is counted anew
abbrev pub events_between : Rules → Bool → List (List Packet) → List FeedEvent
events_between r ended [] = []
events_between r ended (ps ∷ []) = numbered_from r None (closed_of ended (groups r.frames ps))
events_between r ended (ps ∷ qs ∷ more) =
    numbered_from r None (groups r.frames ps) ++ Silent ∷ events_between r ended (qs ∷ more)

-- the events of a feed that are known by its bytes, or at its end all
unfoldable pub feed_events : Rules → Bool → List ℕ → List FeedEvent
feed_events r ended bytes = events_between r ended (between_idle (arrivals r.network.pid bytes))
