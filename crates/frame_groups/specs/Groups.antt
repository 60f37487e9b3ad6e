-- The packets of each T2 frame: the longest runs of packets with one key (frame_idx and superframe_idx of ETSI TS 102
-- 773, clause 5).
use Rattle.std.specs.Prelude.{ℕ, ◌==◌, ◌&&◌, nat_lt, Bool, true, false, List, [], ◌∷◌, Option, Some, None}
use Rattle.std.specs.Prelude.{if◌then◌else◌}
use Rattle.std.specs.List.{filter}
use Rattle.frame_groups.specs.declared.key.Key.{Key}
use Rattle.t2mi_packet.specs.declared.packet.Packet.{Packet}
use Rattle.t2mi_packet.specs.declared.packet.Body.{Body}
use Rattle.t2mi_packet.specs.declared.packet.Body.TheVariants.{Block, L1Current, Timestamp, Other}

abbrev pub is_same : Key → Key → Bool
is_same k l = (k.superframe == l.superframe) && (k.frame == l.frame)

-- What belongs to a frame, if a superframe has so many: a baseband frame or an L1-current with a frame_idx below their
-- number, and every timestamp.
abbrev pub body_counts : ℕ → Body → Bool
body_counts frames (Block frame_idx plp_id first bits) = nat_lt frame_idx frames
body_counts frames (L1Current frame_idx pre conf dynamic extension) = nat_lt frame_idx frames
body_counts frames (Timestamp stamp) = true
body_counts frames (Other packet_type bits) = false

abbrev pub is_counted : ℕ → Packet → Bool
is_counted frames p = body_counts frames p.body

-- A timestamp has the key before it if that is of its superframe, else that of the superframe's first frame.
abbrev pub stamp_key : Option Key → ℕ → Key
stamp_key None superframe = record { superframe = superframe; frame = 0 }
stamp_key (Some k) superframe = if k.superframe == superframe then k else record { superframe = superframe; frame = 0 }

abbrev pub body_key : Option Key → ℕ → Body → Key
body_key before superframe (Block frame_idx plp_id first bits) = record { superframe = superframe; frame = frame_idx }
body_key before superframe (L1Current frame_idx pre conf dynamic extension) =
    record { superframe = superframe; frame = frame_idx }
body_key before superframe (Timestamp stamp) = stamp_key before superframe
body_key before superframe (Other packet_type bits) = record { superframe = superframe; frame = 0 }

-- the key of a packet behind one with a key, or behind none
abbrev pub key_behind : Option Key → Packet → Key
key_behind before p = body_key before p.superframe p.body

pub record Keyed : Type 0 where
  pub key : Key
  pub packet : Packet

-- packets with their keys
abbrev pub keyed : Option Key → List Packet → List Keyed
keyed before [] = []
keyed before (p ∷ ps) = record { key = key_behind before p; packet = p } ∷ keyed (Some (key_behind before p)) ps

-- packets with one key, one behind the other
pub record Group : Type 0 where
  pub key : Key
  pub packets : List Packet

-- groups with one packet more in front
abbrev pub in_front : Keyed → List Group → List Group
in_front x [] = record { key = x.key; packets = x.packet ∷ [] } ∷ []
in_front x (g ∷ gs) =
    if is_same x.key g.key then record { key = x.key; packets = x.packet ∷ g.packets } ∷ gs
    else record { key = x.key; packets = x.packet ∷ [] } ∷ g ∷ gs

-- the longest runs with one key
abbrev pub key_runs : List Keyed → List Group
key_runs [] = []
key_runs (x ∷ xs) = in_front x (key_runs xs)

-- the groups of the packets that belong to a frame, in order
unfoldable pub groups : ℕ → List Packet → List Group
groups frames ps = key_runs (keyed None (filter (is_counted frames) ps))
