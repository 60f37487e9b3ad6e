-- What a `Receiver` stands for.
use Rattle.std.specs.Prelude.{◌≡◌, ℕ, zero, suc, ◌+◌, ◌-◌, ◌*◌, false, List, length}
use Rattle.plp_config.specs.Plps.{spread}
use Rattle.plp_config.specs.SlotTime.{slots_by}
use Rattle.plp_config.specs.declared.config.Config.{Config}
use Rattle.site_frame.specs.declared.reading.RecordView.{RecordView}
use Rattle.plp_receiver.specs.SlotEpochs.{Epoch}
use Rattle.plp_receiver.specs.SlotsStandFor as slots
use Rattle.plp_receiver.specs.declared.slots.PacketSlots.{PacketSlots}
use Rattle.plp_receiver.specs.Epochs.{slot_rule, TellAll, Readback}
use Rattle.plp_receiver.specs.Holds.{Holds, seen}
use Rattle.plp_receiver.specs.declared.held.HeldBlocks.{HeldBlocks}
use Rattle.plp_receiver.specs.declared.receiver.Receiver.{Receiver}

-- the records tell what came into the slots, by the rule of the PLP, and what is held
pub record Stands (c : Config) (plp : ℕ) (p : PacketSlots) (h : HeldBlocks) (first : ℕ) (views : List RecordView)
    (released : ℕ) : Type 0 where
  pub told : List Epoch
  pub tells : TellAll c plp first views told
  pub stands : slots.PacketSlotsStandsFor p (slot_rule c plp) first (length views) told released
  pub holds : Holds c plp (seen c plp first views) h

-- no record came yet
pub record Fresh (c : Config) (plp : ℕ) (p : PacketSlots) (h : HeldBlocks) : Type 0 where
  pub fresh : slots.IsFresh p (slot_rule c plp)
  pub none : h.there ≡ false

-- what a caller sees: the network, the place of the PLP, the frame that comes next, and how many slots are due
pub record Status : Type 0 where
  pub network : Config
  pub plp : ℕ
  pub frame : ℕ
  pub due : ℕ

abbrev pub network_of : Receiver → Config
network_of v = v.network

abbrev pub plp_of : Receiver → ℕ
plp_of v = v.plp

abbrev pub frame_of : Receiver → ℕ
frame_of v = slots.frame_of v.slots

abbrev pub due_of : Receiver → ℕ
due_of v = slots.due_of v.slots

abbrev pub status_of : Receiver → Status
status_of v = record { network = network_of v; plp = plp_of v; frame = frame_of v; due = due_of v }

-- that of one to which no record came
abbrev pub new_status : Config → ℕ → Status
new_status c plp = record { network = c; plp = plp; frame = 0; due = 0 }

-- what seeing a record leaves as it was
pub record Unseen : Type 0 where
  pub network : Config
  pub plp : ℕ
  pub slots : PacketSlots

abbrev pub unseen_of : Receiver → Unseen
unseen_of v = record { network = v.network; plp = v.plp; slots = v.slots }

-- how many slots of a PLP are over when so many frames have come; and how many came with so many from one on, from the
-- slot on at which the output begins
abbrev pub slots_over : Config → ℕ → ℕ → ℕ
slots_over c plp frames = slots_by c plp (frames * c.ticks)

abbrev pub slots_come : Config → ℕ → ℕ → ℕ → ℕ
slots_come c plp first zero = 0
slots_come c plp first (suc before) = slots_over c plp (first + before) - slots_over c plp (first - spread c.plps plp)

-- These records came, the first of them of this frame, and so many slots were given out.
unfoldable pub ReceiverStandsFor : Receiver → ℕ → List RecordView → ℕ → Type 0
ReceiverStandsFor v first views released = Stands v.network v.plp v.slots v.held first views released

unfoldable pub IsFresh : Receiver → Type 0
IsFresh v = Fresh v.network v.plp v.slots v.held

-- There is a list of packets that the records give back, and of these so many are due.
abbrev pub TellsDue : Receiver → Type 0
TellsDue v = (first : ℕ) (views : List RecordView) (released : ℕ) → ReceiverStandsFor v first views released
    → (packets : List (List ℕ)) × Readback (network_of v) (plp_of v) first views packets
    × (due_of v ≡ length packets - released)
