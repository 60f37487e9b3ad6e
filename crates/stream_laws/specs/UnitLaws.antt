-- Laws of what is written of a damaged stream.
use Rattle.std.specs.Prelude.{◌≡◌, ℕ, ◌+◌, ◌<◌, ◌≤◌, true, List, [], ◌∷◌, ◌++◌, length, map, drop, slice_get, Some}
use Rattle.frame_groups.specs.Groups.{groups}
use Rattle.frame_groups.specs.Modulated.{Rules, modulated}
use Rattle.t2mi_stream.specs.Laws.{Carry}
use Rattle.t2mi_stream.specs.Pipe.{pipe}
use Rattle.t2mi_stream.specs.Received.{Fate, AlteredWhole, fate_of}
use Rattle.t2mi_stream.specs.Received.Fate.{Kept}
use Rattle.t2mi_stream.specs.Survivors.{received_packets, AreKept}
use Rattle.modulator.specs.Modulating as modulating
use Rattle.stream_laws.specs.SentPackets.{Sent, packets_of}
use Rattle.plp_config.specs.declared.config.Config.{Config}
use Rattle.stream_laws.specs.Survivors.{carries, is_whole, groups_met, survivor_records}
use Rattle.stream_laws.specs.GroupNumbers.{numbers_behind, frames_left, number_from, JoinsAt}
use Rattle.stream_laws.specs.DamageLaws.{RulesMeet}
use Rattle.stream_laws.specs.Streams.{Stream, IsStream, stream_survival, stream_survivors, Honest}

-- Of each sent packet it is told whether it survives.
abbrev pub SurvivalLength : Type 0
SurvivalLength = (s : Stream) (from : ℕ) (fates : List Fate) → IsStream s
    → length (stream_survival s from fates) ≡ length s.sent

-- The packets that are read are, in order, those that survive.
abbrev pub ReadAreSurvivors : Type 0
ReadAreSurvivors = (s : Stream) (from : ℕ) (fates : List Fate) → IsStream s → Honest s from fates
    → modulating.packets_of (received_packets s.pid s.packets from fates) ≡ packets_of (stream_survivors s from fates)

-- The groups are, in order, the survivors of those frames that have one.
abbrev pub HonestGroups : Type 0
HonestGroups = (s : Stream) (from : ℕ) (fates : List Fate) → IsStream s → Honest s from fates
    → groups s.frames (modulating.packets_of (received_packets s.pid s.packets from fates))
    ≡ groups_met s.frames s.count (stream_survivors s from fates)

-- The records of what is received are those that must come.
abbrev pub HonestRecords : Type 0
HonestRecords = (r : Rules) (s : Stream) (from : ℕ) (fates : List Fate) → r.frames ≡ s.frames → IsStream s
    → Honest s from fates
    → RulesMeet r s.count s.sent (stream_survival s from fates)
    → modulated r (modulating.packets_of (received_packets s.pid s.packets from fates)) ≡ survivor_records
    r.network s.sent
    (stream_survival s from fates)

-- Once a group of what is received is the join, with the number of its frame, each later group has the number of its
-- frame.
abbrev pub HonestNumbers : Type 0
HonestNumbers = (r : Rules) (s : Stream) (from : ℕ) (fates : List Fate) (first : ℕ) → r.frames ≡ s.frames → IsStream s
    → Honest s from fates → JoinsAt r (stream_survivors s from fates) first
    → numbers_behind r [] (groups r.frames (modulating.packets_of (received_packets s.pid s.packets from fates)))
    ≡ map (number_from first) (frames_left s.count (stream_survivors s from fates))

-- A stream of which all units from one on are kept is honest by itself.
abbrev pub KeptHonest : Type 0
KeptHonest = (s : Stream) (from : ℕ) (fates : List Fate) → IsStream s → AlteredWhole fates
    → AreKept (length (drop from (pipe s.pid s.packets))) fates → Honest s from fates

-- The units that carry the packet with a number are kept.
pub record IsCarried (packets : List (List ℕ)) (from : ℕ) (fates : List Fate) (number : ℕ) : Type 0 where
  pub before : List (List ℕ)
  pub packet : List ℕ
  pub after : List (List ℕ)
  pub parts : packets ≡ before ++ packet ∷ after
  pub count : length before ≡ number
  pub first : ℕ
  pub last : ℕ
  pub carried : Carry packets before packet (from + first) (from + last)
  pub kept : (n : ℕ) → first ≤ n → n < last → fate_of fates n ≡ Some Kept

-- A frame is whole if the units are kept of all packets that it carries, whatever becomes of the others.
abbrev pub KeptWhole : Type 0
KeptWhole = (c : Config) (s : Stream) (from : ℕ) (fates : List Fate) (n : ℕ) → IsStream s → AlteredWhole fates
    → ((i : ℕ) (p : Sent) → slice_get s.sent i ≡ Some p → carries c n p ≡ true → IsCarried s.packets from fates i)
    → is_whole c s.sent (stream_survival s from fates) n ≡ true
