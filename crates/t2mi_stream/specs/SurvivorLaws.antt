-- What is accepted, and which sent packets that are.
use Rattle.std.specs.Prelude.{◌≡◌, ℕ, ◌+◌, ◌^◌, ◌<◌, ◌≤◌, true, false, List, [], ◌∷◌, ◌++◌, length, drop, map}
use Rattle.std.specs.Prelude.{replicate, slice_get, Some}
use Rattle.std.specs.List.{items_where_true}
use Rattle.t2mi_stream.specs.Accepted.{Byte, AcceptedPacket, front_packet}
use Rattle.t2mi_stream.specs.Units.{runs, accepted_of}
use Rattle.t2mi_stream.specs.Received.{Fate, AlteredWhole}
use Rattle.t2mi_stream.specs.Pipe.{joined, pipe}
use Rattle.t2mi_stream.specs.Laws.{Among, IsStart, ArePackets, IsSurvivor}
use Rattle.t2mi_stream.specs.Survivors.{sent_packets, received_packets, survival, AreSent, begun_from, AreKept}

-- An accepted packet stands at a start of a run.
pub record StandsAtStart (pid : ℕ) (bytes : List ℕ) (p : AcceptedPacket) : Type 0 where
  pub run : List Byte
  pub is_run : Among run ((runs pid bytes).ended ++ (runs pid bytes).run ∷ [])
  pub start : ℕ
  pub is_start : IsStart run start
  pub packet : front_packet (drop start run) ≡ Some p

abbrev pub AcceptedStand : Type 0
AcceptedStand = (pid : ℕ) (bytes : List ℕ) (p : AcceptedPacket) → Among p (accepted_of pid bytes)
    → StandsAtStart pid bytes p

-- The places of packets rise, from one on.
abbrev pub RiseFrom : ℕ → List AcceptedPacket → Type 0
RiseFrom low [] = Unit {0}
RiseFrom low (p ∷ ps) = (low ≤ p.place) × RiseFrom (p.place + 1) ps

-- The places of accepted packets rise.
abbrev pub PlacesRise : Type 0
PlacesRise = (pid : ℕ) (bytes : List ℕ) → RiseFrom 0 (accepted_of pid bytes)

-- The accepted packets are, in order, the sent packets that survive, each at the place of its first byte.
pub record AreSurvivors (pid : ℕ) (packets : List (List ℕ)) (from : ℕ) (fates : List Fate) : Type 0 where
  pub bytes : map (λ p. p.bytes) (received_packets pid packets from fates)
      ≡ items_where_true (survival pid packets from fates) packets
  pub places : map Some (received_packets pid packets from fates) ≡ items_where_true (survival pid packets from fates)
      (sent_packets packets from fates)

-- If every accepted packet is a sent one at its place, the accepted packets are those that survive.
abbrev pub AcceptedSurvive : Type 0
AcceptedSurvive = (pid : ℕ) (packets : List (List ℕ)) (from : ℕ) (fates : List Fate) → ArePackets packets
    → AreSent (received_packets pid packets from fates) (sent_packets packets from fates)
    → AreSurvivors pid packets from fates

-- `IsSurvivor` says what the test of a sent packet, by its number, decides.
pub record SurvivalIs (pid : ℕ) (before : List (List ℕ)) (packet : List ℕ) (after : List (List ℕ)) (from : ℕ)
    (fates : List Fate) : Type 0 where
  pub told : IsSurvivor pid before packet after from fates
      → slice_get (survival pid (before ++ packet ∷ after) from fates)
      (length before) ≡ Some true
  pub only : slice_get (survival pid (before ++ packet ∷ after) from fates) (length before) ≡ Some true
      → IsSurvivor pid before packet after from fates

abbrev pub SurvivalTold : Type 0
SurvivalTold = (pid : ℕ) (before after : List (List ℕ)) (packet : List ℕ) (from : ℕ) (fates : List Fate)
    → ArePackets (before ++ packet ∷ after) → SurvivalIs pid before packet after from fates

-- Every accepted packet is a sent one at its place, and exactly the packets that begin in one of the units survive: all
-- but the first ones.
pub record IsUndamaged (pid : ℕ) (packets : List (List ℕ)) (from : ℕ) (fates : List Fate) : Type 0 where
  pub sent : AreSent (received_packets pid packets from fates) (sent_packets packets from fates)
  pub survive : survival pid packets from fates ≡ begun_from (joined packets) from 0 packets
  pub lost : ℕ
  pub left : ℕ
  pub later : survival pid packets from fates ≡ replicate lost false ++ replicate left true

-- So it is if all units from one on are kept.
abbrev pub KeptUndamaged : Type 0
KeptUndamaged = (pid : ℕ) (packets : List (List ℕ)) (from : ℕ) (fates : List Fate) → pid < 2 ^ 13 → ArePackets packets
    → AlteredWhole fates
    → AreKept (length (drop from (pipe pid packets))) fates → IsUndamaged pid packets from fates
