-- What records tell of the interleaving frames of a PLP, and what it is given back of them. An interleaving frame is an
-- epoch here.
use Rattle.std.specs.Prelude.{◌≡◌, ℕ, ◌+◌, ◌-◌, ◌*◌, ◌/◌, ◌==◌, nat_le, List, [], ◌∷◌, length, take, drop, sum, Option}
use Rattle.std.specs.Prelude.{Some, None, Bool, true, if◌then◌else◌, option_map}
use Rattle.std.specs.List.{AllZip, range_with_len, list_all}
use Rattle.plp_config.specs.Capacity.{up_bytes}
use Rattle.plp_config.specs.Plps.{plp_at, spread}
use Rattle.plp_config.specs.SlotTimes.{slot_times}
use Rattle.plp_config.specs.declared.config.Config.{Config}
use Rattle.site_frame.specs.declared.reading.RecordView.{RecordView}
use Rattle.site_frame.specs.declared.reading.RecordView.TheVariants.{Frame, Muted}
use Rattle.plp_receiver.specs.SlotEpochs.{Epoch, lost_epoch, epoch_with, readback}
use Rattle.plp_receiver.specs.Strings.{Block}
use Rattle.plp_receiver.specs.declared.slot_rule.SlotRule.{SlotRule}
use Rattle.frame_groups.specs.Readable.{coming, readable}
use Rattle.plp_receiver.specs.Parts.{Part, part_with, count_of, all_stand}
use Rattle.plp_receiver.specs.Taken.{IsGiven, bytes_at}

-- what the record of frame n tells, if it is readable
abbrev pub part_of : Config → ℕ → RecordView → Option Part
part_of c n (Muted moment) = None
part_of c n (Frame moment pre post blocks cells) = option_map (λ shape. part_with n blocks shape cells)
    (readable c n pre post blocks cells)

-- what those of the frames from n on tell, if all are
abbrev pub with_part : Option Part → Option (List Part) → Option (List Part)
with_part None parts = None
with_part (Some p) None = None
with_part (Some p) (Some parts) = Some (p ∷ parts)

unfoldable pub parts_of : Config → ℕ → List RecordView → Option (List Part)
parts_of c n [] = Some []
parts_of c n (v ∷ views) = with_part (part_of c n v) (parts_of c (n + 1) views)

-- all tell one number of blocks of the PLP
abbrev pub agree : ℕ → List Part → Bool
agree plp [] = true
agree plp (p ∷ parts) = list_all (λ q. count_of plp q == count_of plp p) parts

abbrev pub agreeing : ℕ → Option (List Part) → Option (List Part)
agreeing plp None = None
agreeing plp (Some parts) = if agree plp parts then Some parts else None

-- what the records of epoch m, which ended with them, tell, if it is there: they are all in the list of the records
-- from a frame on, and readable, and agree
abbrev pub epoch_parts : Config → ℕ → ℕ → List RecordView → ℕ → Option (List Part)
epoch_parts c plp first views m =
    if nat_le first (m * spread c.plps plp)
    then agreeing plp (parts_of c (m * spread c.plps plp)
    (take (spread c.plps plp) (drop (m * spread c.plps plp - first) views)))
    else None

-- all cells of a block stand: each at its address in the record of the frame that carries it
abbrev pub cells_stand : Config → ℕ → List Part → ℕ → Bool
cells_stand c plp parts block = list_all (λ p. all_stand c plp p block) parts

-- the place of a block in the record of the frame in which its epoch begins: behind those of the PLPs before that come
-- with it
abbrev pub place_of : Config → ℕ → Part → ℕ → ℕ
place_of c plp p block = sum (take plp (coming c p.number p.shape)) + block

-- The parts of an epoch, the first of them this one, tell this of its blocks.
abbrev pub TellsBlocks : Config → ℕ → Part → List Part → List (Option Block) → Type 0
TellsBlocks c plp p parts told =
    AllZip (λ block b. IsGiven (plp_at c.plps plp).delete (cells_stand c plp parts block)
    (bytes_at p.blocks (place_of c plp p block)) b)
    (range_with_len 0 (count_of plp p)) told

-- What the parts of an epoch tell, and one that is not there.
abbrev pub Tells : Config → ℕ → Option (List Part) → Epoch → Type 0
Tells c plp None told = told ≡ lost_epoch
Tells c plp (Some []) told = told ≡ epoch_with []
Tells c plp (Some (p ∷ parts)) told = (blocks : List (Option Block))
    × TellsBlocks c plp p (p ∷ parts) blocks × (told ≡ epoch_with blocks)

-- the epochs that end with one of so many frames from one on
abbrev pub epochs_in : ℕ → ℕ → ℕ → List ℕ
epochs_in spread first count = range_with_len (first / spread) ((first + count) / spread - first / spread)

-- The records of the frames from one on tell this of these epochs.
unfoldable pub TellAll : Config → ℕ → ℕ → List RecordView → List Epoch → Type 0
TellAll c plp first views told = AllZip (λ m e. Tells c plp (epoch_parts c plp first views m) e)
    (epochs_in (spread c.plps plp) first (length views)) told

-- the slots of the PLP at a place, its frames, and what its user packets have
abbrev pub slot_rule : Config → ℕ → SlotRule
slot_rule c plp = record {
  times = slot_times c plp;
  ticks = c.ticks;
  spread = spread c.plps plp;
  up_len = up_bytes c plp;
  deletes = (plp_at c.plps plp).delete;
}

-- What a PLP is given back of the records of the frames from one on: one packet for each slot that is due.
pub record Readback (c : Config) (plp first : ℕ) (views : List RecordView) (packets : List (List ℕ)) : Type 0 where
  pub told : List Epoch
  pub tells : TellAll c plp first views told
  pub packets_are : packets ≡ readback (slot_rule c plp) first (length views) told
