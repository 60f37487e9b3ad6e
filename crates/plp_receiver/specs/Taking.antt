-- How the blocks of a PLP are taken. No public clause cites this module.
use Rattle.std.specs.Prelude.{◌≡◌, ℕ, ◌+◌, ◌<◌, ◌≤◌, Bool, true, false, List, [], ◌∷◌, ◌++◌, length, slice_index_or}
use Rattle.std.specs.Prelude.{Option}
use Rattle.std.specs.List.{AllZip, range_with_len}
use Rattle.plp_config.specs.declared.config.Config.{Config}
use Rattle.site_frame.specs.Record as frame
use Rattle.plp_receiver.specs.SlotEpochs.{Epoch, epoch_with}
use Rattle.plp_receiver.specs.SlotsStandFor.{PacketSlotsStandsFor, StandsWithin, ends_epoch}
use Rattle.plp_receiver.specs.Strings.{Block}
use Rattle.plp_receiver.specs.declared.slot_rule.SlotRule.{SlotRule}
use Rattle.plp_receiver.specs.declared.slots.PacketSlots.{PacketSlots}
use Rattle.plp_receiver.specs.Parts.{Part}
use Rattle.plp_receiver.specs.Taken.{IsGiven, bytes_at}
use Rattle.plp_receiver.specs.Epochs.{Tells}
use Rattle.plp_receiver.specs.Holds.{Holds, block_at, is_begun}
use Rattle.plp_receiver.specs.declared.held.HeldBlocks.{HeldBlocks}

-- So many blocks from the front on are there, each of this length.
abbrev pub HaveLength : ℕ → ℕ → List frame.Block → Type 0
HaveLength len count blocks = (count ≤ length blocks) × ((k : ℕ) → k < count → length (bytes_at blocks k) ≡ len)

-- These blocks of the epoch were taken, or nothing in place of each.
abbrev pub Adds : PacketSlots → PacketSlots → List (Option Block) → Type 0
Adds old new told = (r : SlotRule) (first count : ℕ) (epochs : List Epoch) (blocks : List (Option Block)) (released : ℕ)
    → StandsWithin old r first count epochs blocks released → StandsWithin new r first count epochs (blocks ++ told)
    released

-- A block was taken, or nothing in its place.
pub record TakesBlock (deletes stands : Bool) (sent : List ℕ) (old new : PacketSlots) : Type 0 where
  pub told : Option Block
  pub given : IsGiven deletes stands sent told
  pub adds : Adds old new (told ∷ [])

-- So were all blocks that are held.
pub record TakesBlocks (deletes : Bool) (stands : List Bool) (len : ℕ) (bytes : List ℕ) (old new : PacketSlots) :
    Type 0 where
  pub told : List (Option Block)
  pub given : AllZip (λ k b. IsGiven deletes (slice_index_or stands k false) (block_at len bytes k) b)
      (range_with_len 0 (length stands)) told
  pub adds : Adds old new told

-- A frame came, and an epoch ended with it, of which this came.
abbrev pub Ends : PacketSlots → PacketSlots → Epoch → Type 0
Ends old new epoch = (r : SlotRule) (first count : ℕ) (epochs : List Epoch) (released : ℕ)
    → PacketSlotsStandsFor old r first count epochs released → PacketSlotsStandsFor new r first (count + 1)
    (epochs ++ epoch ∷ []) released

-- A frame came, and no epoch ended.
abbrev pub Goes : PacketSlots → PacketSlots → Type 0
Goes old new = (r : SlotRule) (first count : ℕ) (epochs : List Epoch) (released : ℕ)
    → PacketSlotsStandsFor old r first count epochs released → PacketSlotsStandsFor new r first (count + 1)
    epochs released

-- The blocks that are held were taken.
pub record TakesEpoch (deletes : Bool) (h : HeldBlocks) (old new : PacketSlots) : Type 0 where
  pub told : List (Option Block)
  pub given : AllZip (λ k b. IsGiven deletes (slice_index_or h.stands.items k false) (block_at h.len h.bytes.items k) b)
      (range_with_len 0 h.count) told
  pub ends : Ends old new (epoch_with told)

-- A frame ended whose record was seen: of the epoch that ends with it came what the parts tell that are held.
pub record TellsEpoch (c : Config) (plp : ℕ) (parts : Option (List Part)) (old new : PacketSlots) : Type 0 where
  pub told : Epoch
  pub tells : Tells c plp parts told
  pub ends : Ends old new told

pub record EndsRecord (c : Config) (plp : ℕ) (old_held new_held : HeldBlocks) (old new : PacketSlots) : Type 0 where
  pub last : ends_epoch old ≡ true → (parts : Option (List Part)) → is_begun parts ≡ true → Holds c plp parts old_held
      → TellsEpoch c plp parts old new
  pub inner : ends_epoch old ≡ false → Goes old new × (new_held ≡ old_held)
