-- The PID of the T2-MI in a file of units: the first one that a unit tells.
use Rattle.std.specs.Prelude.{◌≡◌, ℕ, ◌*◌, ◌/◌, ◌<◌, ◌≤◌, ◌==◌, ◌&&◌, nat_lt, not, List, [], ◌++◌, length, map, take}
use Rattle.std.specs.Prelude.{slice_get, option_to_list, flat_map, Some, None, if◌then◌else◌}
use Rattle.std.specs.List.{range_with_len}
use Rattle.std.specs.declared.option.Option.{Option}
use Rattle.ts_packet.specs.declared.sizes.TheConstants.{SIZE}
use Rattle.ts_packet.specs.TransportPacket.{Fields}
use Rattle.ts_packet.specs.FieldsIn.{fields_in}
use Rattle.t2mi_stream.specs.Accepted.{AcceptedPacket}
use Rattle.t2mi_stream.specs.Skipping.{further}
use Rattle.t2mi_stream.specs.Units.{unit_at, accepted_of}

-- the PID of a transport packet that has a payload and is not null, whatever its error indicator and scrambling
abbrev pub pid_of : Option Fields → Option ℕ
pid_of None = None
pid_of (Some f) = if nat_lt 0 (length f.payload) && not (f.pid == 0x1FFF) then Some f.pid else None

-- the PID that a unit of a file tells: 188 bytes, the first of which stands at 188 times its number
abbrev pub pid_at : List ℕ → ℕ → Option ℕ
pid_at file number = pid_of (fields_in (unit_at file number))

-- the numbers of the units of a file; bytes of an incomplete last one are in none
abbrev pub unit_numbers : List ℕ → List ℕ
unit_numbers file = range_with_len 0 (length file / SIZE)

-- the PID of the T2-MI in a file: the first one that a unit tells
unfoldable pub pid_in : List ℕ → Option ℕ
pid_in file = slice_get (flat_map (λ number. option_to_list (pid_at file number)) (unit_numbers file)) 0

-- the packets that are accepted on a PID
abbrev pub accepted_on : Option ℕ → List ℕ → List AcceptedPacket
accepted_on None file = []
accepted_on (Some pid) file = accepted_of pid file

-- the T2-MI packets of a file, in order, with their places
abbrev pub t2mi_packets_in : List ℕ → List AcceptedPacket
t2mi_packets_in file = accepted_on (pid_in file) file

-- The bytes are whole units that tell no PID.
pub record TellsNone (front : List ℕ) : Type 0 where
  pub units : ℕ
  pub whole : length front ≡ SIZE * units
  pub none : (number : ℕ) → number < units → pid_at front number ≡ None

-- Behind units that tell no PID stands one more.
abbrev pub TellsNoneOn : Type 0
TellsNoneOn = (front unit : List ℕ) → TellsNone front → length unit ≡ SIZE → pid_of (fields_in unit) ≡ None
    → TellsNone (front ++ unit)

-- The packets of a file whose first units tell no PID, and then one tells it, are those of the rest, further on.
abbrev pub PacketsBehind : Type 0
PacketsBehind = (front rest : List ℕ) (pid : ℕ) → TellsNone front → SIZE ≤ length rest
    → pid_of (fields_in (take SIZE rest))
    ≡ Some pid
    → t2mi_packets_in (front ++ rest) ≡ map (further (length front)) (accepted_of pid rest)

-- A file whose units all tell no PID has no packets.
abbrev pub NoPackets : Type 0
NoPackets = (front rest : List ℕ) → TellsNone front → length rest < SIZE → t2mi_packets_in (front ++ rest) ≡ []
