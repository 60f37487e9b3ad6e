-- Laws of the packets of a run.
use Rattle.std.specs.Prelude.{◌≡◌, ◌<◌, ◌≤◌, ℕ, ◌+◌, ◌-◌, ◌*◌, List, ◌++◌, length}
use Rattle.plp_config.specs.Capacity.{IsPlan}
use Rattle.plp_config.specs.RunLength.{frame_count}
use Rattle.plp_config.specs.SlotTime.{slots_by}
use Rattle.plp_config.specs.declared.config.Config.{Config}
use Rattle.mode_adapt.specs.Deletion.{packet_at}
use Rattle.t2mi_stream.specs.Complete.{complete_units}
use Rattle.t2mi_stream.specs.Pipe.{joined, pipe, carried_len}
use Rattle.gateway_core.specs.Events.{Event, begun}
use Rattle.gateway_core.specs.InputsStandFor.{AllContinue}
use Rattle.gateway_core.specs.Packets.{front_packets, packets_of}
use Rattle.gateway_core.specs.StandsFor.{IsLast}

-- A run is three frames longer at least than the next frame when all packets that it wants of an input were there.
abbrev pub NotYetLast : Type 0
NotYetLast = (c : Config) (packets : ℕ → ℕ) (plp m : ℕ) → IsPlan c → plp < length c.plps → slots_by c plp (m * c.ticks)
    ≤ packets plp → m + 3 < frame_count c packets

-- The packets of fewer frames are the first ones.
abbrev pub FrontsGrow : Type 0
FrontsGrow = (c : Config) (inputs : ℕ → List (List ℕ)) (n k : ℕ) → (more : List (List ℕ))
    × (front_packets c inputs (n + k) ≡ front_packets c inputs n ++ more)

-- All units of the frames below n begin with the complete units of fewer frames.
abbrev pub UnitsLaw : Type 0
UnitsLaw = (c : Config) (inputs : ℕ → List (List ℕ)) (k n : ℕ) → k ≤ n
    → (rest : List (List ℕ)) × (pipe c.pid (front_packets c inputs n) ≡ complete_units c.pid (front_packets c inputs k)
    ++ rest)

-- The packets of the frames below n follow from the input packets in the slots that are over when the last of these
-- frames begins.
abbrev pub FrontsDecided : Type 0
FrontsDecided = (c : Config) (inputs other : ℕ → List (List ℕ)) (n : ℕ) → IsPlan c
    → ((plp k : ℕ) → plp < length c.plps → k < slots_by c plp ((n - 1) * c.ticks)
    → packet_at (inputs plp) k ≡ packet_at (other plp) k)
    → front_packets c inputs n ≡ front_packets c other n

-- When the last frame was begun, the packets of the frames begun are all packets.
abbrev pub LastIsAll : Type 0
LastIsAll = (c : Config) (events : List Event) (inputs : ℕ → List (List ℕ)) → IsLast c events
    → AllContinue c events inputs
    → front_packets c inputs (begun events) ≡ packets_of c inputs

-- Fewer bytes wait for a unit than three frames have: so the complete units of the frames below k carry the first byte
-- of each frame that has three of them behind its beginning, whatever frames follow.
abbrev pub WaitsThreeFrames : Type 0
WaitsThreeFrames = (c : Config) (inputs : ℕ → List (List ℕ)) (n k all units : ℕ) → IsPlan c → n + 3 ≤ k → k ≤ all
    → length (complete_units c.pid (front_packets c inputs k)) ≤ units → length (joined (front_packets c inputs n))
    < carried_len units (joined (front_packets c inputs all))
