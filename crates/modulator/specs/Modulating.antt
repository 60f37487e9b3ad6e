-- What bytes in, records out, stands for.
use Rattle.std.specs.Prelude.{◌≡◌, ◌⊎◌, ℕ, ◌+◌, ◌-◌, ◌*◌, ◌≤◌, Bool, true, false, is_some, List, map, length, take}
use Rattle.std.specs.Prelude.{Option, Some}
use Rattle.plp_config.specs.declared.config.Config.{Config}
use Rattle.plp_config.specs.declared.moment.TheConstants.{MOST_FRAMES}
use Rattle.t2mi_packet.specs.Reading.{packet_at}
use Rattle.t2mi_packet.specs.T2miPacket.{view_of}
use Rattle.t2mi_packet.specs.declared.packet.Packet.{Packet}
use Rattle.t2mi_stream.specs.Accepted.{AcceptedPacket}
use Rattle.t2mi_stream.specs.Events.{UnpiperEvent, fed, released}
use Rattle.t2mi_stream.specs.Units.{accepted_of}
use Rattle.t2mi_stream.specs.UnpiperStandsFor.{UnpiperStandsFor, is_ready, steps_left, fed_len, next_packet}
use Rattle.t2mi_stream.specs.declared.unpiper.Unpiper.{Unpiper}
use Rattle.ts_packet.specs.declared.sizes.TheConstants.{SIZE}
use Rattle.frame_groups.specs.Groups.{Group}
use Rattle.frame_groups.specs.Modulated.{Numbered, FrameRecord}
use Rattle.frame_groups.specs.Sequenced.{Keeps, Ends}
use Rattle.frame_groups.specs.Waits.{waits, records_left, most_records, greatest_step, IsWithin}
use Rattle.frame_groups.specs.declared.key.Key.{Key}
use Rattle.frame_groups.specs.declared.waiting.Progress.{Progress}
use Rattle.frame_groups.specs.Tests.{rules}
use Rattle.open_group.specs.Holds.{Holds}
use Rattle.modulator.specs.declared.modulating.Modulating.{Modulating}

-- the packet that bytes are
abbrev pub packet_of : List ℕ → Packet
packet_of bytes = packet_at (view_of bytes)

abbrev pub packets_of : List AcceptedPacket → List Packet
packets_of accepted = map (λ a. packet_of a.bytes) accepted

-- the packets that were worked off
abbrev pub worked : ℕ → List UnpiperEvent → List Packet
worked pid events = packets_of (take (released events) (accepted_of pid (fed events)))

-- what working packets off leaves as it was: the network, whether no more bytes come, and how many were fed
pub record Stream : Type 0 where
  pub network : Config
  pub finished : Bool
  pub fed : ℕ

abbrev pub stream_of : Modulating → Stream
stream_of m = record { network = m.sequence.group.network; finished = m.finished; fed = fed_len m.unpiper }

-- what beginning a record, and giving some of its bytes, leaves as it was
pub record Course : Type 0 where
  pub unpiper : Unpiper
  pub finished : Bool
  pub progress : Progress
  pub key : Option Key
  pub network : Config

abbrev pub course_of : Modulating → Course
course_of m = record {
  unpiper = m.unpiper;
  finished = m.finished;
  progress = m.sequence.progress;
  key = m.sequence.group.key;
  network = m.sequence.group.network;
}

-- The group under way still stands for what it stood for.
abbrev pub HoldsOn : Modulating → Modulating → Type 0
HoldsOn old new = (past : List Numbered) (g : Option Group) → Holds old.sequence.group past g
    → Holds new.sequence.group past g

-- The packet that waits closed the group; or none waits, at the end.
abbrev pub IsAhead : Course → List UnpiperEvent → Type 0
IsAhead k events =
    ((a : AcceptedPacket) × (next_packet k.network.pid events ≡ Some a)
    × Ends (rules k.network) k.key (packet_of a.bytes))
    ⊎ ((k.finished ≡ true) × (is_ready k.unpiper ≡ false))

-- Bytes were fed, and records were given.
pub record StandsAt (m : Modulating) (bytes : List ℕ) (given : List FrameRecord) : Type 0 where
  pub events : List UnpiperEvent
  pub stands : UnpiperStandsFor m.unpiper m.sequence.group.network.pid events
  pub fed_is : fed events ≡ bytes
  pub few : released events ≤ length (accepted_of m.sequence.group.network.pid (fed events))
  pub keeps : Keeps (Holds m.sequence.group) (rules m.sequence.group.network) m.sequence.progress
      (worked m.sequence.group.network.pid events) given
  pub ahead : m.sequence.progress.closing ≡ true → IsAhead (course_of m) events

-- A record waits.
abbrev pub has_record : Modulating → Bool
has_record m = waits m.sequence.progress

-- how many steps can be left in a unit
abbrev pub most_steps : ℕ
most_steps = 2 * SIZE + 1

-- the greatest number of a frame that the packets of the unit in hand can have told: a superframe more for each step
-- that is over
abbrev pub near_number : Unpiper → ℕ
near_number u = MOST_FRAMES + greatest_step * (most_steps + 1 - steps_left u)

-- Whatever waits in the unit in hand, the numbers of its frames are small.
abbrev pub IsNear : Modulating → Type 0
IsNear m = IsWithin (near_number m.unpiper) m.sequence.progress

pub record Settled (k : Course) : Type 0 where
  pub done : waits k.progress ≡ false → is_ready k.unpiper ≡ false
  pub ended : k.finished ≡ true → waits k.progress ≡ false → k.progress.closing ≡ false → is_some k.key ≡ false
  pub near : IsWithin (near_number k.unpiper) k.progress

-- Packets were worked off until a record waits or no packet does, and after the end the last group is closed.
abbrev pub IsSettled : Modulating → Type 0
IsSettled m = Settled (course_of m)

-- the most records that can be given before more bytes come: those that are left of the group under way, and those of a
-- group for each step that is left in the unit
unfoldable pub ahead_by : Unpiper → Progress → ℕ
ahead_by u at = steps_left u * most_records + records_left at

abbrev pub records_ahead : Modulating → ℕ
records_ahead m = ahead_by m.unpiper m.sequence.progress
