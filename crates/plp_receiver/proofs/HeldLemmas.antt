-- The blocks that are held, record by record.
use Rattle.std.proofs.Common.{◌≡◌, ℕ, ◌+◌, ◌-◌, ◌*◌, ◌%◌, ◌<◌, ◌≤◌, ◌==◌, ◌&&◌, Bool, true, false, List, [], ◌∷◌, ◌++◌}
use Rattle.std.proofs.Common.{length, take, drop, get_or, Option, Some, None, refl, ap, ◌∙◌, sym, subst, arith}
use Rattle.std.proofs.Common.{append_assoc}
use Rattle.std.specs.Prelude.{not, slice_index, sum}
use Rattle.std.specs.List.{AllZip, range_with_len}
use Rattle.std.proofs.lemmas.Bool.{both_ways, and_parts, eqb-true, eq-eqb}
use Rattle.std.proofs.lemmas.List.{length-take-le, length-drop, drop-drop, drop-take, take-take, drop-append-le}
use Rattle.std.proofs.lemmas.List.{take-append-le}
use Rattle.std.proofs.lemmas.List.Folds.{list_all-append}
use Rattle.std.proofs.Math.Seq.{drop-append_seam, take-append_seam}
use Rattle.std.proofs.Math.Bool.{and-true}
use Rattle.std.proofs.Math.Nat.{mul-le-mul_right}
use Rattle.plp_config.specs.Plps.{plp_at}
use Rattle.plp_config.specs.declared.config.Config.{Config}
use Rattle.scheduler.specs.Shape.{FrameShape}
use Rattle.cell_map.specs.declared.places.Cell.{Cell}
use Rattle.site_frame.specs.Record as frame
use Rattle.plp_receiver.specs.SlotEpochs.{epoch_with}
use Rattle.plp_receiver.specs.Strings.{Block}
use Rattle.plp_receiver.specs.declared.slots.PacketSlots.{PacketSlots}
use Rattle.frame_groups.specs.Readable.{coming}
use Rattle.plp_receiver.specs.Parts.{Part, part_with, count_of, all_stand}
use Rattle.plp_config.specs.Plps.{spread}
use Rattle.plp_receiver.specs.Taken.{IsGiven, bytes_at}
use Rattle.plp_receiver.specs.Epochs.{cells_stand, place_of}
use Rattle.plp_receiver.specs.Holds.{Blocks, blocks_of, block_at, Keeps, Holds, is_begun, joined, Sees}
use Rattle.plp_receiver.specs.Taking.{TakesEpoch, TellsEpoch}
use Rattle.plp_receiver.specs.declared.held.HeldBlocks.{HeldBlocks}
use Rattle.plp_receiver.proofs.ListLemmas.{zip_over}
use Rattle.circular_buffer.proofs.Places.{slice_get-drop}

-- ---- places
pub place_in : (k n len : ℕ) → k < n → k * len + len ≤ n * len
place_in k n len l = grind (arith, mul-le-mul_right)

pub place_next : (k len : ℕ) → (k + 1) * len ≡ k * len + len
place_next k len = omega arith

-- what stands behind stays
pub left_behind : (k len : ℕ) (now mid old : List ℕ) → drop (k * len + len) now ≡ drop (k * len + len) mid
    → drop (k * len) mid ≡ drop (k * len) old → drop ((k + 1) * len) now ≡ drop ((k + 1) * len) old
left_behind k len now mid old e f =
    let next = place_next k len in
    ap (λ (n : ℕ). drop n now) next
    ∙ e
    ∙ sym (drop-drop len (k * len) mid)
    ∙ ap (drop len) f
    ∙ drop-drop len (k * len) old
    ∙ sym (ap (λ (n : ℕ). drop n old) next)

-- a block that was put to a place, and those before it
module _ (k len : ℕ) (out block new : List ℕ) (long : length block ≡ len) (inside : k * len ≤ length out)
    (e : new ≡ take (k * len) out ++ block ++ drop (k * len + length block) out) where
  abbrev rest : List ℕ
  rest = drop (k * len + length block) out

  front : length (take (k * len) out) ≡ k * len
  front = length-take-le (k * len) out inside

  new_is : new ≡ take (k * len) out ++ (block ++ rest)
  new_is = e ∙ append_assoc (take (k * len) out) block rest

  pub put_here : block_at len new k ≡ block
  put_here = grind (arith, new_is, front, drop-append_seam, take-append_seam)

  pub put_before : (j : ℕ) → j < k → block_at len new j ≡ block_at len out j
  put_before j l =
      let a : ℕ = j * len in
      let m : ℕ = k * len - a in
      let fits = place_in j k len l in
      let whole : k * len ≡ a + m = omega (arith, fits) in
      let back : drop a (take (k * len) out) ≡ take m (drop a out) = ap (λ (n : ℕ). drop a (take n out)) whole
      ∙ drop-take a m out in
      let size : len ≤ length (drop a (take (k * len) out)) = omega (
        arith,
        fits,
        front,
        length-drop
            a (take (k * len) out),
      ) in
      ap (λ (x : List ℕ). take len (drop a x)) new_is
      ∙ ap (take len) (drop-append-le a (take (k * len) out) (block ++ rest) (omega (arith, fits, front)))
      ∙ take-append-le len (drop a (take (k * len) out)) (block ++ rest) size
      ∙ ap (take len) back
      ∙ take-take len m (drop a out) (omega (arith, fits, whole))

-- ---- the parts
cells_more : (c : Config) (plp : ℕ) (parts : List Part) (q : Part) (k : ℕ) → cells_stand c plp (parts ++ q ∷ []) k
    ≡ (cells_stand c plp parts k && all_stand c plp q k)
cells_more c plp parts q k = grind (arith, list_all-append, and-true)

-- what is known when the blocks of the first part were copied
pub record Begun (c : Config) (plp : ℕ) (q : Part) (h : HeldBlocks) : Type 0 where
  pub there : h.there ≡ true
  pub count : h.count ≡ count_of plp q
  pub bytes : (k : ℕ) → k < h.count → block_at h.len h.bytes.items k ≡ bytes_at q.blocks (place_of c plp q k)
  pub stand : (k : ℕ) → k < h.count → get_or h.stands.items k false ≡ true

pub begun_at : (c : Config) (plp n : ℕ) (shape : FrameShape) (blocks rest : List frame.Block)
    (cells : List (Option Cell))
    (h : HeldBlocks) → h.there ≡ true → h.count ≡ slice_index shape.counts plp
    → rest ≡ drop (sum (take plp (coming c n shape))) blocks
    → ((k : ℕ) → k < h.count → block_at h.len h.bytes.items k ≡ bytes_at rest k)
    → ((k : ℕ) → k < h.count → get_or h.stands.items k false ≡ true)
    → Begun c plp (part_with n blocks shape cells) h
begun_at c plp n shape blocks rest cells h there count behind bytes stand =
    grind (arith, front, Option, slice_get-drop)

-- and when the cells of a part were seen
pub record Seen (c : Config) (plp : ℕ) (q : Part) (old new : HeldBlocks) : Type 0 where
  pub same : blocks_of new ≡ blocks_of old
  pub each : (k : ℕ) → k < old.count → get_or new.stands.items k false
      ≡ (get_or old.stands.items k false && all_stand c plp q k)

module _ (c : Config) (plp : ℕ) (q : Part) where
  same_bytes : (old new : HeldBlocks) → Seen c plp q old new → (k : ℕ) → block_at new.len new.bytes.items k
      ≡ block_at old.len old.bytes.items k
  same_bytes old new s k = ap (λ (b : Blocks). block_at b.room.len b.bytes k) s.same

  pub first_kept : (mid new : HeldBlocks) → Begun c plp q mid → Seen c plp q mid new → Keeps c plp q (q ∷ []) new
  first_kept mid new b s = record {
    there = ap (λ (b : Blocks). b.there) s.same ∙ b.there;
    count = ap (λ (b : Blocks). b.count) s.same ∙ b.count;
    bytes = λ k l. same_bytes mid new s k ∙ b.bytes k (subst (λ (b : Blocks). k < b.count) s.same l);
    stand = λ k l.
        let inside : k < mid.count = subst (λ (b : Blocks). k < b.count) s.same l in
        s.each k inside
        ∙ ap (λ (t : Bool). t && all_stand c plp q k) (b.stand k inside)
        ∙ sym (and-true (all_stand c plp q k));
  }

  -- the record goes on with the others, or not
  pub goes_on : (n : ℕ) (old new : HeldBlocks) → (n % spread c.plps plp == 0) ≡ false
      → (old.there && (old.count == count_of plp q)) ≡ true → Seen c plp q old new → Sees c plp n (Some q) old new
  goes_on n old new later on s parts started h = go parts (started ∙ ap not later) h
    where
      both : (old.there ≡ true) × ((old.count == count_of plp q) ≡ true)
      both = and_parts old.there (old.count == count_of plp q) on

      go : (ps : Option (List Part)) → is_begun ps ≡ true → Holds c plp ps old
          → Holds c plp (joined plp ps (Some q)) new
      go None e k = absurd (both_ways _ k both.0)
      go (Some []) e k = absurd (both_ways _ refl e)
      go (Some (p ∷ ps)) e k =
          let count : count_of plp q ≡ count_of plp p = sym (eqb-true old.count (count_of plp q) both.1) ∙ k.count in
          rw (eq-eqb (count_of plp q) (count_of plp p) count)
          (record {
            there = ap (λ (b : Blocks). b.there) s.same ∙ k.there;
            count = ap (λ (b : Blocks). b.count) s.same ∙ k.count;
            bytes = λ i l. same_bytes old new s i ∙ k.bytes i (subst (λ (b : Blocks). i < b.count) s.same l);
            stand = λ i l.
                let inside : i < old.count = subst (λ (b : Blocks). i < b.count) s.same l in
                s.each i inside
                ∙ ap (λ (t : Bool). t && all_stand c plp q i) (k.stand i inside)
                ∙ sym (cells_more c plp (p ∷ ps) q i);
          })

-- ---- the end of an epoch
pub epoch_told : (c : Config) (plp : ℕ) (deletes : Bool) (h : HeldBlocks) (old new : PacketSlots) → h.there ≡ true
    → deletes ≡ (plp_at c.plps plp).delete → TakesEpoch deletes h old new
    → (parts : Option (List Part)) → is_begun parts ≡ true → Holds c plp parts h → TellsEpoch c plp parts old new
epoch_told c plp deletes h old new there own t None e k = absurd (both_ways _ k there)
epoch_told c plp deletes h old new there own t (Some []) e k = absurd (both_ways _ refl e)
epoch_told c plp deletes h old new there own t (Some (p ∷ ps)) e k = record {
  told = epoch_with t.told;
  tells = (
    t.told,
    subst (λ (n : ℕ). AllZip Given (range_with_len 0 n) t.told) k.count
        (zip_over (λ i b. IsGiven deletes (get_or h.stands.items i false) (block_at h.len h.bytes.items i) b)
        Given 0 h.count
        t.told here t.given),
    refl,
  );
  ends = t.ends;
}
  where
    Given : ℕ → Option Block → Type 0
    Given i b = IsGiven (plp_at c.plps plp).delete (cells_stand c plp (p ∷ ps) i)
        (bytes_at p.blocks (place_of c plp p i)) b

    here : (i : ℕ) (b : Option Block) → 0 ≤ i → i < 0 + h.count
        → IsGiven deletes (get_or h.stands.items i false) (block_at h.len h.bytes.items i) b → Given i b
    here i b low inside g =
        let l : i < h.count = omega (arith, inside) in
        subst (λ (d : Bool). IsGiven d (cells_stand c plp (p ∷ ps) i) (bytes_at p.blocks (place_of c plp p i)) b) own
        (subst (λ (x : Bool). IsGiven deletes x (bytes_at p.blocks (place_of c plp p i)) b) (k.stand i l)
        (subst (λ (x : List ℕ). IsGiven deletes (get_or h.stands.items i false) x b) (k.bytes i l) g))
