-- T2-MI packets that are sent frame by frame.
use Rattle.std.specs.Prelude.{◌≡◌, ℕ, ◌+◌, ◌*◌, ◌/◌, ◌%◌, ◌<◌, ◌≤◌, ◌==◌, ◌≢◌, List, [], ◌∷◌, map, Option, Some, None}
use Rattle.std.specs.List.{filter, AllByRecursion}
use Rattle.t2mi_packet.specs.declared.packet.Body.{Body}
use Rattle.t2mi_packet.specs.declared.packet.Body.TheVariants.{Block, L1Current, Timestamp, Other}
use Rattle.t2mi_packet.specs.declared.packet.Packet.{Packet}
use Rattle.frame_groups.specs.Groups.{Group, key_behind}
use Rattle.frame_groups.specs.Numbers.{superframe_period, frame_key}

-- a sent packet, and the number of its frame
pub record Sent : Type 0 where
  pub frame : ℕ
  pub packet : Packet

abbrev pub packets_of : List Sent → List Packet
packets_of sent = map (λ s. s.packet) sent

-- the packets of a frame among sent ones
abbrev pub frame_packets : ℕ → List Sent → List Packet
frame_packets n sent = packets_of (filter (λ s. s.frame == n) sent)

-- and as a group, if a superframe has so many frames
abbrev pub frame_group : ℕ → List Sent → ℕ → Group
frame_group frames sent n = record { key = frame_key frames n; packets = frame_packets n sent }

-- It carries a timestamp.
abbrev pub IsTimestamp : Body → Type 0
IsTimestamp (Block frame_idx plp_id first bits) = ⊥
IsTimestamp (L1Current frame_idx pre conf dynamic extension) = ⊥
IsTimestamp (Timestamp stamp) = Unit {0}
IsTimestamp (Other packet_type bits) = ⊥

-- A packet tells its frame: a timestamp is sent in the first frame of a superframe (ETSI TS 102 773, clause 5.2.7).
abbrev pub TellsFrame : ℕ → ℕ → Body → Type 0
TellsFrame frames n (Block frame_idx plp_id first bits) = frame_idx ≡ n % frames
TellsFrame frames n (L1Current frame_idx pre conf dynamic extension) = frame_idx ≡ n % frames
TellsFrame frames n (Timestamp stamp) = n % frames ≡ 0
TellsFrame frames n (Other packet_type bits) = ⊥

pub record IsOfFrame (frames : ℕ) (s : Sent) : Type 0 where
  pub superframe : s.packet.superframe ≡ s.frame / frames % superframe_period
  pub frame : TellsFrame frames s.frame s.packet.body

-- A packet comes behind one of frame m: no frame comes before another, and a timestamp is the first packet of its
-- frame.
pub record Follows (m : ℕ) (s : Sent) : Type 0 where
  pub frame : m ≤ s.frame
  pub stamp : IsTimestamp s.packet.body → m < s.frame

abbrev pub FollowsSome : Option ℕ → Sent → Type 0
FollowsSome None s = Unit {0}
FollowsSome (Some m) s = Follows m s

-- Packets are in the order of their frames, behind one of a frame, or behind none.
abbrev pub InFrameOrder : ℕ → Option ℕ → List Sent → Type 0
InFrameOrder frames before [] = Unit {0}
InFrameOrder frames before (s ∷ sent) = IsOfFrame frames s × FollowsSome before s
    × InFrameOrder frames (Some s.frame) sent

-- The packets are those of so many frames, in their order, each of which has one at least.
pub record AreFrames (frames count : ℕ) (sent : List Sent) : Type 0 where
  pub order : InFrameOrder frames None sent
  pub below : AllByRecursion (λ s. s.frame < count) sent
  pub some : (n : ℕ) → n < count → frame_packets n sent ≢ []

-- A packet is near one of frame m: by less than the frames after which keys come again, and a timestamp by less than
-- the superframes after which superframe_idx does.
pub record IsNear (frames m : ℕ) (s : Sent) : Type 0 where
  pub frame : s.frame < m + superframe_period * frames
  pub stamp : IsTimestamp s.packet.body → s.frame / frames < m / frames + superframe_period

abbrev pub IsNearSome : ℕ → Option ℕ → Sent → Type 0
IsNearSome frames None s = Unit {0}
IsNearSome frames (Some m) s = IsNear frames m s

-- Each packet is near the one before it.
abbrev pub AreNear : ℕ → Option ℕ → List Sent → Type 0
AreNear frames before [] = Unit {0}
AreNear frames before (s ∷ sent) = IsNearSome frames before s × AreNear frames (Some s.frame) sent

-- A packet behind one of frame m has that frame's superframe_idx and frame_idx only if it is of it. (A timestamp has no
-- frame_idx: for it superframe_idx alone decides.)
abbrev pub IsApart : ℕ → ℕ → Sent → Type 0
IsApart frames m s = key_behind (Some (frame_key frames m)) s.packet ≡ frame_key frames m → s.frame ≡ m

abbrev pub IsApartSome : ℕ → Option ℕ → Sent → Type 0
IsApartSome frames None s = Unit {0}
IsApartSome frames (Some m) s = IsApart frames m s

-- So it is of each packet and the one before it.
abbrev pub AreApart : ℕ → Option ℕ → List Sent → Type 0
AreApart frames before [] = Unit {0}
AreApart frames before (s ∷ sent) = IsApartSome frames before s × AreApart frames (Some s.frame) sent
