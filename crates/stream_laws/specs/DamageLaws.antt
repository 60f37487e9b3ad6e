-- Laws of frames of which packets are lost.
use Rattle.std.specs.Prelude.{◌≡◌, ◌≢◌, ◌%◌, ℕ, ◌<◌, ◌≤◌, true, false, Bool, List, [], length, slice_get, Some, None}
use Rattle.std.specs.Prelude.{is_some, count_by, ◌+◌, ◌*◌, ◌/◌, ◌==◌}
use Rattle.std.specs.List.{filter, items_where_true, Contains}
use Rattle.plp_config.specs.Places.{FramesStandAlone}
use Rattle.plp_config.specs.declared.config.Config.{Config}
use Rattle.frame_groups.specs.Groups.{Group, groups}
use Rattle.frame_groups.specs.Modulated.{Numbered, Rules, modulated}
use Rattle.frame_groups.specs.Numbers.{frame_key}
use Rattle.frame_groups.specs.declared.cause.MuteCause.TheVariants.{PacketMissing}
use Rattle.stream_laws.specs.SentPackets.{Sent, packets_of, frame_packets, frame_group, IsTimestamp, AreFrames, AreNear}
use Rattle.stream_laws.specs.SentPackets.{AreApart}
use Rattle.frame_groups.specs.Begun.{packets_at}
use Rattle.stream_laws.specs.Survivors.{carries, is_whole, groups_met, survivor_records, later_only}

-- Packets are sent frame by frame, of each it is told whether it survives, and survivors are near one another.
pub record Survive (frames count : ℕ) (sent : List Sent) (survival : List Bool) : Type 0 where
  pub some : 0 < frames
  pub sent_are : AreFrames frames count sent
  pub told : length survival ≡ length sent
  pub near : AreNear frames None (items_where_true survival sent)

-- Of packets that are sent frame by frame, if survivors of different frames are apart, the groups are, in order, the
-- survivors of those frames that have one.
abbrev pub GroupsAreFrames : Type 0
GroupsAreFrames = (frames count : ℕ) (sent : List Sent) (survival : List Bool) → 0 < frames
    → AreFrames frames count sent → AreApart frames None (items_where_true survival sent)
    → groups frames (packets_of (items_where_true survival sent)) ≡ groups_met frames count
    (items_where_true survival sent)

-- Groups that have numbers are what survives of the frames from one on up to another.
pub record AreMet (first n : ℕ) (survivors : List Sent) (past : List Numbered) : Type 0 where
  pub there : (b : ℕ) → first ≤ b → b < n → packets_at past b ≡ frame_packets b survivors
  pub none : (b : ℕ) → n ≤ b → packets_at past b ≡ []

-- They are met from the first frame of a superframe on up to frame n, of which a packet survives.
pub record IsMet (frames first n : ℕ) (survivors : List Sent) (past : List Numbered) : Type 0 where
  pub before : first ≤ n
  pub begins : first % frames ≡ 0
  pub groups : AreMet first n survivors past
  pub some : frame_packets n survivors ≢ []

-- What the rules make of such packets.
pub record RulesMeet (r : Rules) (count : ℕ) (sent : List Sent) (survival : List Bool) : Type 0 where
  pub network : r.network.frames ≡ r.frames
  -- A timestamp names only a frame that has its group's key.
  pub key : (g : Group) (n : ℕ) → r.named g ≡ Some n → frame_key r.frames n ≡ g.key
  -- The timestamp of a whole frame that begins a superframe names it.
  pub names : (n : ℕ) → n < count → n % r.frames ≡ 0 → is_whole r.network sent survival n ≡ true
      → r.named (frame_group r.frames sent n) ≡ Some n
  -- A whole frame passes as itself, behind what survives of the frames before it.
  pub passes : (first n : ℕ) (past : List Numbered) → n < count
      → IsMet r.frames first n (items_where_true survival sent) past → is_whole r.network sent survival n ≡ true
      → r.fault past (frame_group r.frames sent n) n ≡ None
  -- What survives of one that is not whole lacks a packet, as itself.
  pub lacks : (first n : ℕ) (past : List Numbered) → n < count
      → IsMet r.frames first n (items_where_true survival sent) past → is_whole r.network sent survival n ≡ false
      → r.fault past (frame_group r.frames (items_where_true survival sent) n) n ≡ Some PacketMissing
  -- And if it begins a superframe, it passes as no frame with its key, behind none.
  pub fails : (n m : ℕ) → n < count → n % r.frames ≡ 0 → frame_key r.frames m ≡ frame_key r.frames n
      → is_whole r.network sent survival n ≡ false → frame_packets n (items_where_true survival sent) ≢ []
      → is_some (r.fault [] (frame_group r.frames (items_where_true survival sent) n) m) ≡ true

-- Then the records of the survivors are those that must come: each whole frame from the join on, and why each other one
-- is muted.
abbrev pub ModulatedIsRecords : Type 0
ModulatedIsRecords = (r : Rules) (count : ℕ) (sent : List Sent) (survival : List Bool)
    → Survive r.frames count sent survival
    → RulesMeet r count sent survival
    → modulated r (packets_of (items_where_true survival sent)) ≡ survivor_records r.network sent survival

-- A frame is whole if each packet that it carries survives, by their numbers among all.
abbrev pub WholeTold : Type 0
WholeTold = (c : Config) (sent : List Sent) (survival : List Bool) (n : ℕ)
    → ((i : ℕ) (s : Sent) → slice_get sent i ≡ Some s → carries c n s ≡ true → slice_get survival i ≡ Some true)
    → is_whole c sent survival n ≡ true

-- Of the packets that a whole frame carries none is lost: of any packets among them those that were sent survive.
abbrev pub WholeIsAll : Type 0
WholeIsAll = (c : Config) (sent : List Sent) (survival : List Bool) (n : ℕ) (test : Sent → Bool)
    → length survival ≡ length sent → is_whole c sent survival n ≡ true
    → ((s : Sent) → test s ≡ true → carries c n s ≡ true)
    → filter test (items_where_true survival sent) ≡ filter test sent

-- A packet that passes a test is missing: of any packets to which it belongs, fewer survive than were sent.
pub record Misses (passes : Sent → Bool) (sent : List Sent) (survival : List Bool) : Type 0 where
  pub packet : Sent
  pub there : Contains sent packet
  pub passing : passes packet ≡ true
  pub fewer : (test : Sent → Bool) → test packet ≡ true → count_by test (items_where_true survival sent) < count_by
      test sent

-- In a frame that is not whole a packet that it carries is missing.
abbrev pub NotWholeMisses : Type 0
NotWholeMisses = (c : Config) (sent : List Sent) (survival : List Bool) (n : ℕ) → is_whole c sent survival n ≡ false
    → Misses (carries c n) sent survival

-- If every interleaving frame is carried by one frame, a frame carries what is sent in it, and no more.
abbrev pub CarriesAlone : Type 0
CarriesAlone = (c : Config) (n : ℕ) (s : Sent) → FramesStandAlone c → carries c n s ≡ (s.frame == n)

-- If only packets at the front are lost, survivors are near one another.
abbrev pub LaterNear : Type 0
LaterNear = (frames count : ℕ) (sent : List Sent) (lost left : ℕ) → 0 < frames → AreFrames frames count sent
    → AreNear frames None (items_where_true (later_only lost left) sent)

-- Packets are near one another if each next one is of a frame less than 16 superframes on, and a timestamp besides of a
-- superframe less than 16 on.
abbrev pub NearTold : Type 0
NearTold = (frames : ℕ) (sent : List Sent)
    → ((i : ℕ) (s next : Sent) → slice_get sent i ≡ Some s → slice_get sent (i + 1) ≡ Some next
    → (next.frame < s.frame + 16 * frames) × (IsTimestamp next.packet.body
    → next.frame / frames < s.frame / frames + 16))
    → AreNear frames None sent
