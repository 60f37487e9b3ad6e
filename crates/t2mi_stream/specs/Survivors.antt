-- Sent packets among the packets that are accepted of what is received.
use Rattle.std.specs.Prelude.{◌≡◌, ◌<◌, ℕ, zero, suc, ◌+◌, ◌-◌, ◌==◌, ◌&&◌, nat_lt, nat_le, Bool, false, List, [], ◌∷◌}
use Rattle.std.specs.Prelude.{length, drop, map, bytes_eq, Option, Some, None, option_map, if◌then◌else◌}
use Rattle.std.specs.List.{list_any}
use Rattle.t2mi_stream.specs.Accepted.{AcceptedPacket}
use Rattle.t2mi_stream.specs.Laws.{Among}
use Rattle.t2mi_stream.specs.Pipe.{JoinedByte, joined, part, pipe, offset_in}
use Rattle.t2mi_stream.specs.Received.{Fate, received, place_of, fate_of}
use Rattle.t2mi_stream.specs.Received.Fate.{Kept}
use Rattle.t2mi_stream.specs.Units.{accepted_of}

-- the number of the unit that carries the byte at a place of joined packets, among so many units
abbrev pub unit_within : ℕ → List JoinedByte → ℕ → ℕ
unit_within zero xs place = 0
unit_within (suc steps) xs place = if nat_lt place (part xs).size then 0
    else suc (unit_within steps (drop (part xs).size xs) (place - (part xs).size))

-- the number of the unit that carries the byte at a place: each unit takes a byte at least
abbrev pub unit_number : List JoinedByte → ℕ → ℕ
unit_number xs place = unit_within (length xs) xs place

-- the place of a byte that a unit carries, by the unit's number among those sent
abbrev pub place_in : List JoinedByte → ℕ → List Fate → ℕ → ℕ → Option ℕ
place_in xs from fates place number = if nat_le from number then place_of fates (number - from)
    (offset_in number xs place)
    else None

-- the place among the received bytes of the byte at a place of joined packets: none if its unit is lost
unfoldable pub received_place : List JoinedByte → ℕ → List Fate → ℕ → Option ℕ
received_place xs from fates place = place_in xs from fates place (unit_number xs place)

-- packets, the first of them at a place of the joined ones, each with the place that its first byte gets
abbrev pub placed_from : (ℕ → Option ℕ) → ℕ → List (List ℕ) → List (Option AcceptedPacket)
placed_from place at [] = []
placed_from place at (packet ∷ packets) = option_map (λ n. record { place = n; bytes = packet }) (place at)
    ∷ placed_from place (at + length packet) packets

-- each sent packet with the place of its first byte among the received bytes: none if that byte is lost
abbrev pub sent_packets : List (List ℕ) → ℕ → List Fate → List (Option AcceptedPacket)
sent_packets packets from fates = placed_from (received_place (joined packets) from fates) 0 packets

-- the accepted packets of what is received of packets
abbrev pub received_packets : ℕ → List (List ℕ) → ℕ → List Fate → List AcceptedPacket
received_packets pid packets from fates = accepted_of pid (received (pipe pid packets) from fates)

-- the same packet at the same place
abbrev pub is_same : AcceptedPacket → AcceptedPacket → Bool
is_same p q = (p.place == q.place) && bytes_eq p.bytes q.bytes

-- A sent packet survives: the place of its first byte is the start of an accepted packet that equals it.
abbrev pub is_accepted : List AcceptedPacket → Option AcceptedPacket → Bool
is_accepted accepted None = false
is_accepted accepted (Some p) = list_any (is_same p) accepted

-- for each sent packet, whether it survives
abbrev pub survival : ℕ → List (List ℕ) → ℕ → List Fate → List Bool
survival pid packets from fates = map (is_accepted (received_packets pid packets from fates))
    (sent_packets packets from fates)

-- Every accepted packet stands at the place of a sent packet's first byte and equals that packet.
abbrev pub AreSent : List AcceptedPacket → List (Option AcceptedPacket) → Type 0
AreSent accepted sent = (p : AcceptedPacket) → Among p accepted → Among (Some p) sent

-- for packets, the first of them at a place of the joined ones, whether they begin in a unit with a number from one on
abbrev pub begun_from : List JoinedByte → ℕ → ℕ → List (List ℕ) → List Bool
begun_from xs from at [] = []
begun_from xs from at (packet ∷ packets) = nat_le from (unit_number xs at) ∷ begun_from xs from (at + length packet)
    packets

-- The first so many units with these fates are kept.
abbrev pub AreKept : ℕ → List Fate → Type 0
AreKept count fates = (n : ℕ) → n < count → fate_of fates n ≡ Some Kept
