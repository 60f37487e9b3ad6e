-- What is held of the epoch under way. No public clause cites this module.
use Rattle.std.specs.Prelude.{◌≡◌, ℕ, ◌+◌, ◌-◌, ◌*◌, ◌/◌, ◌%◌, ◌==◌, ◌<◌, nat_le, not, Bool, true, false, List, [], ◌∷◌}
use Rattle.std.specs.Prelude.{◌++◌, length, take, drop, vec_len, slice_index_or, Option, Some, None, if◌then◌else◌}
use Rattle.plp_config.specs.declared.config.Config.{Config}
use Rattle.site_frame.specs.declared.reading.RecordView.{RecordView}
use Rattle.plp_receiver.specs.Parts.{Part, count_of}
use Rattle.plp_config.specs.Plps.{spread}
use Rattle.plp_receiver.specs.Taken.{bytes_at}
use Rattle.plp_receiver.specs.Epochs.{parts_of, agreeing, cells_stand, place_of}
use Rattle.plp_receiver.specs.declared.held.HeldBlocks.{HeldBlocks}

-- block k of blocks of one length, one behind the other
abbrev pub block_at : ℕ → List ℕ → ℕ → List ℕ
block_at len bytes k = take len (drop (k * len) bytes)

-- for how many blocks there is room, and how long each is
pub record Room : Type 0 where
  pub blocks : ℕ
  pub len : ℕ

abbrev pub room_of : HeldBlocks → Room
room_of h = record { blocks = vec_len h.stands; len = h.len }

-- all that is held, but for which blocks stand
pub record Blocks : Type 0 where
  pub there : Bool
  pub count : ℕ
  pub bytes : List ℕ
  pub room : Room

abbrev pub blocks_of : HeldBlocks → Blocks
blocks_of h = record { there = h.there; count = h.count; bytes = h.bytes.items; room = room_of h }

-- The blocks of the parts so far are held, the first of them this one, and whether all their cells so far stand.
pub record Keeps (c : Config) (plp : ℕ) (p : Part) (parts : List Part) (h : HeldBlocks) : Type 0 where
  pub there : h.there ≡ true
  pub count : h.count ≡ count_of plp p
  pub bytes : (k : ℕ) → k < h.count → block_at h.len h.bytes.items k ≡ bytes_at p.blocks (place_of c plp p k)
  pub stand : (k : ℕ) → k < h.count → slice_index_or h.stands.items k false ≡ cells_stand c plp parts k

-- before the first part nothing is told of what is held
abbrev pub Holds : Config → ℕ → Option (List Part) → HeldBlocks → Type 0
Holds c plp None h = h.there ≡ false
Holds c plp (Some []) h = Unit {0}
Holds c plp (Some (p ∷ parts)) h = Keeps c plp p (p ∷ parts) h

-- what the records so far tell of the epoch under way
abbrev pub seen_from : Config → ℕ → ℕ → List RecordView → ℕ → Option (List Part)
seen_from c plp first views from =
    if nat_le first from then agreeing plp (parts_of c from (drop (from - first) views)) else None

abbrev pub seen : Config → ℕ → ℕ → List RecordView → Option (List Part)
seen c plp first views =
    seen_from c plp first views ((first + length views) / spread c.plps plp * spread c.plps plp)

abbrev pub is_begun : Option (List Part) → Bool
is_begun None = true
is_begun (Some []) = false
is_begun (Some (p ∷ parts)) = true

-- the same with one part more, if it agrees
abbrev pub joined : ℕ → Option (List Part) → Option Part → Option (List Part)
joined plp None part = None
joined plp (Some parts) None = None
joined plp (Some []) (Some q) = Some (q ∷ [])
joined plp (Some (p ∷ parts)) (Some q) = if count_of plp q == count_of plp p then Some (p ∷ parts ++ q ∷ []) else None

-- The record of frame n was seen, which told this.
abbrev pub Sees : Config → ℕ → ℕ → Option Part → HeldBlocks → HeldBlocks → Type 0
Sees c plp n part old new = (parts : Option (List Part)) → is_begun parts ≡ not (n % spread c.plps plp == 0)
    → Holds c plp parts old → Holds c plp (joined plp parts part) new
