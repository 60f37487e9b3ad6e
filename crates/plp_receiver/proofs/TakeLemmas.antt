-- Blocks that were taken, one by one.
use Rattle.std.proofs.Common.{◌≡◌, ℕ, ◌+◌, ◌==◌, ◌&&◌, Bool, true, false, List, [], ◌∷◌, ◌++◌, length}
use Rattle.std.proofs.Common.{get_or, take, arith, Option, Some, None, sym, subst, append_assoc}
use Rattle.std.specs.Cmp.Lexicographic.{pointwise}
use Rattle.std.proofs.lemmas.Bool.{and_parts, eqb-true}
use Rattle.std.proofs.lemmas.List.{get_or-take, length-take-le}
use Rattle.std.specs.List.{AllZip, range_with_len}
use Rattle.terms.specs.Bits.{bits_of}
use Rattle.terms.proofs.RangeLemmas.{places_more}
use Rattle.bb_frame.specs.Scrambled.{scrambled}
use Rattle.cell_map.specs.CellMap.{Passes}
use Rattle.cell_map.specs.declared.places.Cell.{Cell}
use Rattle.frame_groups.specs.TestLaws.{MapPasses}
use Rattle.frame_groups.specs.MapTest.{map_passes}
use Rattle.plp_config.specs.Capacity.{IsPlan}
use Rattle.plp_config.specs.declared.config.Config.{Config}
use Rattle.scheduler.specs.Shape.{FrameShape}
use Rattle.plp_receiver.specs.SlotEpochs.{Epoch, epoch_with}
use Rattle.plp_receiver.specs.SlotsStandFor.{PacketSlotsStandsFor, StandsWithin}
use Rattle.plp_receiver.specs.Strings.{Block}
use Rattle.plp_receiver.specs.declared.slot_rule.SlotRule.{SlotRule}
use Rattle.plp_receiver.specs.declared.slots.PacketSlots.{PacketSlots}
use Rattle.site_frame.specs.Record as frame
use Rattle.frame_groups.specs.Readable.{coming, has_size, block_sizes, shape_agrees}
use Rattle.plp_receiver.specs.Taken.{IsTaken, IsTold, IsGiven}
use Rattle.plp_receiver.specs.Holds.{block_at}
use Rattle.plp_receiver.specs.declared.held.HeldBlocks.{HeldBlocks}
use Rattle.plp_receiver.specs.Taking.{Adds, TakesBlock, TakesBlocks, TakesEpoch}
use Rattle.plp_receiver.proofs.ListLemmas.{zip_more, zip_over}

-- a block whose cells stand
pub stood : (deletes stands : Bool) (sent descrambled : List ℕ) (old new : PacketSlots) (told : Option Block)
    → stands ≡ true
    → IsTold deletes sent told → Adds old new (told ∷ []) → TakesBlock deletes stands sent old new
stood deletes stands sent descrambled old new told e t a =
    record { told = told; given = subst (λ (b : Bool). IsGiven deletes b sent told) (sym e) t; adds = a }

-- what is told of it
pub told_some : (deletes : Bool) (sent descrambled : List ℕ) (b : Block)
    → bits_of descrambled ≡ scrambled (bits_of sent)
    → IsTaken deletes (bits_of descrambled) b → IsTold deletes sent (Some b)
told_some deletes sent descrambled b e t = subst (λ (bits : List Bool). IsTaken deletes bits b) e t

pub told_none : (deletes : Bool) (sent descrambled : List ℕ) → bits_of descrambled ≡ scrambled (bits_of sent)
    → ((b : Block) → ¬ (IsTaken deletes (bits_of descrambled) b)) → IsTold deletes sent None
told_none deletes sent descrambled e f = λ b t. f b (subst (λ (bits : List Bool). IsTaken deletes bits b) (sym e) t)

abbrev pub IsGivenAt : Bool → List Bool → ℕ → List ℕ → ℕ → Option Block → Type 0
IsGivenAt deletes stands len bytes k b = IsGiven deletes (get_or stands k false) (block_at len bytes k) b

-- so many blocks were taken
pub record Took (deletes : Bool) (stands : List Bool) (len : ℕ) (bytes : List ℕ) (n : ℕ) (old new : PacketSlots) :
    Type 0 where
  pub told : List (Option Block)
  pub given : AllZip (IsGivenAt deletes stands len bytes) (range_with_len 0 n) told
  pub adds : Adds old new told

-- and one more
pub took_more : (deletes : Bool) (stands : List Bool) (len : ℕ) (bytes : List ℕ) (n : ℕ) (old mid new : PacketSlots)
    (sent : List ℕ) (stand : Bool)
    → Took deletes stands len bytes n old mid → sent ≡ block_at len bytes n → stand ≡ get_or stands n false
    → TakesBlock deletes stand sent mid new
    → Took deletes stands len bytes (n + 1) old new
took_more deletes stands len bytes n old mid new sent stand was at same t = record {
  told = was.told ++ t.told ∷ [];
  given = subst (λ (l : List ℕ). AllZip (IsGivenAt deletes stands len bytes) l (was.told ++ t.told ∷ []))
      (sym (places_more n))
      (zip_more (IsGivenAt deletes stands len bytes) (range_with_len 0 n) was.told n t.told was.given here);
  adds = λ r first count epochs before released s.
      subst (λ (l : List (Option Block)). StandsWithin new r first count epochs l released)
      (append_assoc before was.told (t.told ∷ []))
      (t.adds r first count epochs (before ++ was.told) released (was.adds r first count epochs before released s));
}
  where
    here : IsGivenAt deletes stands len bytes n t.told
    here = subst (λ (l : List ℕ). IsGiven deletes (get_or stands n false) l t.told) at
        (subst (λ (x : Bool). IsGiven deletes x sent t.told) same t.given)

-- ---- a whole epoch
pub epoch_taken : (deletes : Bool) (h : HeldBlocks) (old begun within new : PacketSlots)
    → ((r : SlotRule) (first count : ℕ) (epochs : List Epoch) (released : ℕ)
    → PacketSlotsStandsFor old r first count epochs released
    → StandsWithin begun r first count epochs [] released)
    → TakesBlocks deletes (take h.count h.stands.items) h.len h.bytes.items begun within
    → ((r : SlotRule) (first count : ℕ) (epochs : List Epoch) (blocks : List (Option Block)) (released : ℕ)
    → StandsWithin within r first count epochs blocks released
    → PacketSlotsStandsFor new r first (count + 1) (epochs ++ epoch_with blocks ∷ []) released)
    → TakesEpoch deletes h old new
epoch_taken deletes h old begun within new begins t ends = record {
  told = t.told;
  given = zip_over (IsGivenAt deletes (take h.count h.stands.items) h.len h.bytes.items)
      (IsGivenAt deletes h.stands.items h.len h.bytes.items) 0 h.count t.told
      (λ k b low l g. subst (λ (x : Bool). IsGiven deletes x (block_at h.len h.bytes.items k) b)
      (get_or-take h.count h.stands.items k false (omega (arith, l))) g)
      (subst (λ (n : ℕ). AllZip (IsGivenAt deletes (take h.count h.stands.items) h.len h.bytes.items)
      (range_with_len 0 n) t.told)
      (length-take-le h.count h.stands.items (let few = h.few in omega (arith, few))) t.given);
  ends = λ r first count epochs released s.
      ends r first count epochs t.told released
      (t.adds r first count epochs [] released (begins r first count epochs released s));
}

-- ---- a readable record
-- what a shape agrees with
pub record Agrees (c : Config) (n : ℕ) (blocks : List frame.Block) (cells : List (Option Cell)) (shape : FrameShape) :
    Type 0
  where
    pub sizes : pointwise has_size blocks (block_sizes c (coming c n shape)) ≡ true
    pub all : length cells ≡ c.cells
    pub passes : Passes c shape

pub agrees : MapPasses → (c : Config) (n : ℕ) (blocks : List frame.Block) (cells : List (Option Cell))
    (shape : FrameShape)
    → IsPlan c
    → shape_agrees c n blocks cells shape ≡ true → Agrees c n blocks cells shape
agrees law c n blocks cells shape plan e =
    let sizes : Bool = pointwise has_size blocks (block_sizes c (coming c n shape)) in
    let a = and_parts (sizes && (length cells == c.cells)) (map_passes c shape) e in
    let b = and_parts sizes (length cells == c.cells) a.0 in
    record { sizes = b.0; all = eqb-true (length cells) c.cells b.1; passes = (law c shape plan).0 a.1 }
