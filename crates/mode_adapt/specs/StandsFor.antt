-- What a chain stands for.
use Rattle.std.specs.Prelude.{◌≡◌, ◌≤◌, ◌<◌, ℕ, ◌+◌, ◌-◌, ◌*◌, ◌/◌, Bool, List, length, drop, map, min}
use Rattle.std.specs.List.{range_with_len}
use Rattle.std.specs.Int.{div_ceil}
use Rattle.plp_config.specs.Capacity.{IsPlan, up_bytes, field_bytes}
use Rattle.plp_config.specs.Plps.{plp_at}
use Rattle.plp_config.specs.SlotTime.{slots_by, epoch_ticks}
use Rattle.plp_config.specs.declared.config.Config.{Config}
use Rattle.null_delete.specs.Deletion.{kept_slots, packet_at}
use Rattle.null_delete.specs.StandsFor.{DeleterStandsFor}
use Rattle.mode_adapt.specs.declared.chain.Chain.{Chain}
use Rattle.mode_adapt.specs.Blocks.{rates_of, plp_keeps, plp_string, block_bits}
use Rattle.mode_adapt.specs.Queue.{sent_before}
use Rattle.mode_adapt.specs.Settings.{AreSettings}
use Rattle.mode_adapt.specs.Events.{Event, offered, cuts}

-- It has sent its bytes before place `sent` of the string of the packets, and holds the rest with the slots of the user
-- packets that begin there.
pub record HoldsRest (chain : Chain) (c : Config) (plp : ℕ) (packets : List (List ℕ)) : Type 0 where
  pub pending : chain.pending.items ≡ drop chain.sent (plp_string c plp (packet_at packets) (length packets))
  pub slots : chain.slots.items ≡ drop (div_ceil chain.sent (up_bytes c plp))
      (kept_slots (plp_keeps c plp (packet_at packets)) (length packets))
  pub behind : chain.sent ≤ length (plp_string c plp (packet_at packets) (length packets))

-- It was given these packets of the PLP at a place, and has sent what is sent before interleaving frame m and the
-- blocks that it put of it.
pub record Holds (chain : Chain) (c : Config) (plp : ℕ) (packets : List (List ℕ)) (m : ℕ) : Type 0 where
  pub plan : IsPlan c
  pub place : plp < length c.plps
  pub settings : AreSettings chain.settings c plp
  pub slot : chain.slot ≡ length packets
  pub deleter : DeleterStandsFor chain.deleter (plp_at c.plps plp).delete packets
  pub whole : (k : ℕ) → length (packet_at packets k) ≡ 188
  pub sent : chain.sent ≡ sent_before (rates_of c plp (epoch_ticks c plp)) (plp_keeps c plp (packet_at packets))
      m + chain.made
      * field_bytes c plp
  pub few : chain.made ≤ chain.settings.blocks
  pub rest : HoldsRest chain c plp packets
  pub from : slots_by c plp ((m - 1) * epoch_ticks c plp) ≤ length packets
  pub to : length packets ≤ slots_by c plp (m * epoch_ticks c plp)

-- No block is to be put yet.
abbrev pub IsPartial : Chain → Type 0
IsPartial chain = chain.made < chain.settings.blocks → length chain.pending.items < chain.settings.field_bytes

-- its configuration and the place of its PLP, and what was done to it, in turn
unfoldable pub ChainStandsFor : Chain → Config → ℕ → List Event → Type 0
ChainStandsFor chain c plp events = Holds chain c plp (offered events) (cuts events) × IsPartial chain

-- the slot of the next packet
abbrev pub slot_of : Chain → ℕ
slot_of chain = chain.slot

-- the bytes that wait for a block
abbrev pub kept_of : Chain → ℕ
kept_of chain = length chain.pending.items

-- the greatest number of blocks that a cut gives
abbrev pub most_blocks : Chain → ℕ
most_blocks chain = chain.settings.blocks

-- the bytes of the packets offered that are not sent before the next interleaving frame
abbrev pub fresh : Config → ℕ → List Event → ℕ
fresh c plp events =
    length (plp_string c plp (packet_at (offered events)) (length (offered events)))
    - sent_before (rates_of c plp (epoch_ticks c plp)) (plp_keeps c plp (packet_at (offered events))) (cuts events)

-- how many data fields they fill of those that the interleaving frame may have
abbrev pub full_fields : Config → ℕ → List Event → ℕ
full_fields c plp events = min (plp_at c.plps plp).blocks (fresh c plp events / field_bytes c plp)

-- the bytes that wait for a block
abbrev pub waiting : Config → ℕ → List Event → ℕ
waiting c plp events = fresh c plp events - full_fields c plp events * field_bytes c plp

-- so many blocks with full data fields, from place x on
abbrev pub full_blocks : Config → ℕ → (ℕ → List ℕ) → ℕ → ℕ → ℕ → List (List Bool)
full_blocks c plp at n x count =
    map (λ i. block_bits c plp at n (x + i * field_bytes c plp) (x + i * field_bytes c plp + field_bytes c plp))
    (range_with_len 0 count)

-- the blocks of the next interleaving frame that are full already
abbrev pub early_blocks : Config → ℕ → List Event → List (List Bool)
early_blocks c plp events =
    full_blocks c plp (packet_at (offered events)) (length (offered events))
    (sent_before (rates_of c plp (epoch_ticks c plp)) (plp_keeps c plp (packet_at (offered events))) (cuts events))
    (full_fields c plp events)
