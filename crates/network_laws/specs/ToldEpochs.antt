-- What a gateway sends for a PLP in each interleaving frame, as records tell it to a receiver. An interleaving frame is
-- an epoch here, and in each slot of the PLP is the packet that `at` tells.
use Rattle.std.specs.Prelude.{◌≡◌, ◌<◌, ◌≤◌, ℕ, ◌+◌, ◌-◌, ◌*◌, ◌^◌, not, Bool, List, map, length, slice_index, min}
use Rattle.std.specs.Prelude.{Some, if◌then◌else◌}
use Rattle.std.specs.List.{range_with_len}
use Rattle.ts_packet.specs.declared.sizes.TheConstants.{SIZE, SYNC}
use Rattle.plp_config.specs.Capacity.{field_bytes, up_bytes, capacity}
use Rattle.plp_config.specs.Plps.{spread}
use Rattle.plp_config.specs.SlotTime.{slots_by, epoch_ticks}
use Rattle.plp_config.specs.declared.config.Config.{Config}
use Rattle.mode_adapt.specs.Queue.{sent, sent_before}
use Rattle.mode_adapt.specs.Blocks.{rates_of, plp_keeps, first_up, with_place, header_at, data_field, block_places}
use Rattle.mode_adapt.specs.Laws.{IsWithin}
use Rattle.record_laws.specs.Recover.{is_there}
use Rattle.plp_receiver.specs.SlotEpochs.{Epoch, lost_epoch, epoch_with}
use Rattle.plp_receiver.specs.Strings.{Block}
use Rattle.plp_receiver.specs.Epochs.{epochs_in}
use Rattle.plp_receiver.specs.Taken.{block_read}

-- a packet of an input: 188 bytes, of which the first is the sync byte
pub record IsPacket (packet : List ℕ) : Type 0 where
  pub size : length packet ≡ SIZE
  pub sync : slice_index packet 0 ≡ SYNC
  pub bytes : (i : ℕ) → slice_index packet i < 2 ^ 8

-- In each slot is one.
abbrev pub ArePackets : (ℕ → List ℕ) → Type 0
ArePackets at = (k : ℕ) → IsPacket (at k)

-- In an epoch the ISCR tells slots apart, and it carries what the stream brings, a user packet at least.
pub record IsEpoch (c : Config) (plp : ℕ) : Type 0 where
  pub some : 1 ≤ epoch_ticks c plp
  pub most : epoch_ticks c plp < 2 ^ 22
  pub within : IsWithin (rates_of c plp (epoch_ticks c plp))
  pub holds : up_bytes c plp ≤ capacity c plp

-- the block from place x on and up to place y, of the string of the slots below n: what its header and its data field
-- tell
abbrev pub told_block : Config → ℕ → (ℕ → List ℕ) → ℕ → ℕ → ℕ → Block
told_block c plp at n x y =
    block_read
    (header_at c plp x (y - x)
    (with_place (up_bytes c plp) (plp_keeps c plp at) (first_up (up_bytes c plp) (plp_keeps c plp at) n x y)))
    (data_field c plp at n x y)

-- the blocks that carry the bytes from place x up to y
abbrev pub told_between : Config → ℕ → (ℕ → List ℕ) → ℕ → ℕ → ℕ → List Block
told_between c plp at n x y = map (λ from. told_block c plp at n from (min (from + field_bytes c plp) y))
    (block_places (field_bytes c plp) x y)

-- the blocks of epoch m
abbrev pub told_blocks : Config → ℕ → (ℕ → List ℕ) → ℕ → List Block
told_blocks c plp at m =
    told_between c plp at (slots_by c plp (m * epoch_ticks c plp))
    (sent_before (rates_of c plp (epoch_ticks c plp)) (plp_keeps c plp at) m)
    (sent (rates_of c plp (epoch_ticks c plp)) (plp_keeps c plp at) m)

-- epoch m, with all its blocks if it is not lost
abbrev pub told_epoch : Config → ℕ → (ℕ → List ℕ) → (ℕ → Bool) → ℕ → Epoch
told_epoch c plp at lost m = if lost m then lost_epoch else epoch_with (map Some (told_blocks c plp at m))

-- so many epochs from one on
abbrev pub told_epochs : Config → ℕ → (ℕ → List ℕ) → (ℕ → Bool) → ℕ → ℕ → List Epoch
told_epochs c plp at lost first count = map (told_epoch c plp at lost) (range_with_len first count)

-- which are lost with so many frames from one on, of which some are muted: those that are not there
abbrev pub is_lost : Config → ℕ → (ℕ → Bool) → ℕ → ℕ → ℕ → Bool
is_lost c plp muted first count m = not (is_there c plp muted first count m)

-- those that end with one of these frames
abbrev pub ended_epochs : Config → ℕ → (ℕ → List ℕ) → (ℕ → Bool) → ℕ → ℕ → List Epoch
ended_epochs c plp at muted first count =
    map (told_epoch c plp at (is_lost c plp muted first count)) (epochs_in (spread c.plps plp) first count)
