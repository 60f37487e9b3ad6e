-- What arrives in a feed: the packets that are accepted, and idle units (ISO/IEC 13818-1, clause 2.4.3; ETSI TS 102
-- 773, clause 6).
use Rattle.std.specs.Prelude.{ℕ, ◌+◌, ◌*◌, ◌/◌, ◌==◌, ◌&&◌, not, Bool, false, List, [], ◌∷◌, ◌++◌, map, length, take}
use Rattle.std.specs.Prelude.{drop, Option, Some, None, if◌then◌else◌}
use Rattle.std.specs.List.{flat_map, range_with_len}
use Rattle.ts_packet.specs.FieldsIn.{fields_in}
use Rattle.ts_packet.specs.TransportPacket.{Fields}
use Rattle.ts_packet.specs.declared.sizes.TheConstants.{SIZE}
use Rattle.t2mi_packet.specs.Reading.{packet_at}
use Rattle.t2mi_packet.specs.T2miPacket.{view_of}
use Rattle.t2mi_packet.specs.declared.packet.Packet.{Packet}
use Rattle.t2mi_stream.specs.Accepted.{AcceptedPacket}
use Rattle.t2mi_stream.specs.Units.{unit_at, accepted_of}

pub data Arrival : Type 0 where
  Came : Packet → Arrival
  Idle : Arrival

-- an accepted packet
abbrev pub came_of : AcceptedPacket → Arrival
came_of a = Came (packet_at (view_of a.bytes))

-- an idle unit: a transport packet on the PID, without error, not scrambled, and without payload
abbrev pub is_idle_of : ℕ → Option Fields → Bool
is_idle_of pid None = false
is_idle_of pid (Some f) = (f.pid == pid) && not f.error && (f.scrambling == 0) && (length f.payload == 0)

abbrev pub is_idle : ℕ → List ℕ → Bool
is_idle pid unit = is_idle_of pid (fields_in unit)

-- the packets that are accepted by so many units
abbrev pub accepted_by : ℕ → List ℕ → ℕ → List AcceptedPacket
accepted_by pid bytes units = accepted_of pid (take (SIZE * units) bytes)

-- those that are accepted with a unit, and not before
abbrev pub accepted_with : ℕ → List ℕ → ℕ → List AcceptedPacket
accepted_with pid bytes unit = drop (length (accepted_by pid bytes unit)) (accepted_by pid bytes (unit + 1))

abbrev pub idle_if : Bool → List Arrival
idle_if idle = if idle then Idle ∷ [] else []

-- what arrives with a unit: packets, and then the unit itself if it is idle
abbrev pub arrivals_with : ℕ → List ℕ → ℕ → List Arrival
arrivals_with pid bytes unit =
    map came_of (accepted_with pid bytes unit) ++ idle_if (is_idle pid (unit_at bytes unit))

abbrev pub arrivals_from : ℕ → List ℕ → ℕ → ℕ → List Arrival
arrivals_from pid bytes unit count = flat_map (arrivals_with pid bytes) (range_with_len unit count)

-- all that arrives, unit by unit
abbrev pub arrivals : ℕ → List ℕ → List Arrival
arrivals pid bytes = arrivals_from pid bytes 0 (length bytes / SIZE)
