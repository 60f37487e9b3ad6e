-- How a `JoinedReceiver` keeps two receivers in step. No public clause cites this module.
use Rattle.std.specs.Prelude.{◌≡◌, ◌<◌, ℕ, ◌+◌, ◌-◌, nat_lt, List, [], ◌∷◌, ◌++◌, length, slice_get, Option, Some, None}
use Rattle.std.specs.Prelude.{if◌then◌else◌}
use Rattle.plp_config.specs.declared.config.Config.{Config}
use Rattle.site_frame.specs.declared.reading.RecordView.{RecordView}
use Rattle.plp_receiver.specs.Epochs.{Readback}
use Rattle.plp_receiver.specs.StandsFor.{ReceiverStandsFor, IsFresh, status_of, new_status, network_of, TellsDue}
use Rattle.plp_receiver.specs.StandsFor.{plp_of, frame_of, due_of}
use Rattle.plp_receiver.specs.declared.receiver.Receiver.{Receiver}
use Rattle.common_plp.specs.Groups.{common_of}
use Rattle.common_plp.specs.Shared.{joined_packet}

-- The second is the receiver of the common PLP of the group of the first one's, if it has one, and waits for the same
-- frame.
pub record KeepsStep (own common : Receiver) : Type 0 where
  pub place : common_of (network_of own) (plp_of own) ≡ Some (plp_of common)
  pub inside : plp_of common < length (network_of own).plps
  pub network : network_of common ≡ network_of own
  pub frame : frame_of common ≡ frame_of own

-- It is there, or not.
pub record InStep (own : Receiver) (common : Option Receiver) : Type 0 where
  pub both : (v : Receiver) → common ≡ Some v → KeepsStep own v

-- Of two receivers that may be there: either is, and something was done to it, or neither.
abbrev pub OnBoth : (Receiver → Receiver → Type 0) → Option Receiver → Option Receiver → Type 0
OnBoth P None None = Unit {0}
OnBoth P None (Some new) = ⊥
OnBoth P (Some old) None = ⊥
OnBoth P (Some old) (Some new) = P old new

-- what was done: it began at a frame,
pub record Begins (first : ℕ) (old new : Receiver) : Type 0 where
  pub stands : ReceiverStandsFor new first [] 0
  pub status : status_of new ≡ record (status_of old) { frame = first; due = 0 }

-- took a record,
pub record Takes (view : RecordView) (old new : Receiver) : Type 0 where
  pub stands : (first : ℕ) (views : List RecordView) (released : ℕ) → ReceiverStandsFor old first views released
      → ReceiverStandsFor new first (views ++ view ∷ []) released
  pub status : status_of new ≡ record (status_of old) { frame = frame_of old + 1; due = due_of new }

-- or gave out a packet, if one was due.
pub record Gives (packet : List ℕ) (old new : Receiver) : Type 0 where
  pub stands : (first : ℕ) (views : List RecordView) (released : ℕ) → ReceiverStandsFor old first views released
      → ReceiverStandsFor new first views (if nat_lt 0 (due_of old) then released + 1 else released)
  pub answer : 0 < due_of old → (first : ℕ) (views : List RecordView) (released : ℕ) (packets : List (List ℕ))
      → ReceiverStandsFor old first views released → Readback (network_of old) (plp_of old) first views packets
      → slice_get packets released ≡ Some packet
  pub status : status_of new ≡ record (status_of old) { due = due_of old - 1 }

abbrev pub CommonTellsDue : Option Receiver → Type 0
CommonTellsDue None = Unit {0}
CommonTellsDue (Some v) = TellsDue v

-- The packet that was given out of one and that of the other were joined.
abbrev pub GivesJoined : Option Receiver → Option Receiver → List ℕ → List ℕ → Type 0
GivesJoined None None own packet = packet ≡ own
GivesJoined None (Some new) own packet = ⊥
GivesJoined (Some old) None own packet = ⊥
GivesJoined (Some old) (Some new) own packet = (shared : List ℕ) × Gives shared old new
    × (packet ≡ joined_packet shared own)

-- It is that of the PLP that is joined, if one is, and no record came to it.
abbrev pub CommonIs : Config → Option ℕ → Option Receiver → Type 0
CommonIs c joins None = joins ≡ None
CommonIs c joins (Some v) = (place : ℕ) × (joins ≡ Some place) × (place < length c.plps) × IsFresh v
    × (status_of v ≡ new_status c place)
