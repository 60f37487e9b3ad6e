-- A frame of a run with a PLP replaced is that frame of the run with the other input.
use Rattle.std.proofs.Common.{◌≡◌, ℕ, zero, suc, ◌+◌, ◌<◌, ◌==◌, List, ◌∷◌, map, refl, ap, ap₂, sym, ◌∙◌, arith, ◌%◌}
use Rattle.std.proofs.Common.{Bool, ◌++◌, length, take, Option, Some, length-append, option_map}
use Rattle.std.specs.Prelude.{slice_set}
use Rattle.std.specs.List.{range_with_len}
use Rattle.std.proofs.lemmas.Bool.{cond-true, cond-false, eq-eqb, ne_eqb}
use Rattle.terms.proofs.RangeLemmas.{map_same}
use Rattle.network_laws.specs.Region.{with_input, FrameIsReplaced}
use Rattle.terms.specs.Bits.{field, part}
use Rattle.terms.proofs.BitLemmas.{length-field}
use Rattle.bit_slice.specs.Crc.{crc32_of}
use Rattle.plp_config.specs.Capacity.{IsPlan}
use Rattle.plp_config.specs.Emission.{emission}
use Rattle.plp_config.specs.declared.config.Config.{Config}
use Rattle.plp_config.specs.declared.moment.Moment.{Moment}
use Rattle.mode_adapt.specs.Blocks.{own_blocks, told_count, told_counts}
use Rattle.scheduler.specs.Laws.{ShapeFitsL1, ShapeHasCounts}
use Rattle.scheduler.specs.Shape.{shape_of}
use Rattle.cell_map.specs.declared.places.Cell.{Cell}
use Rattle.l1_signal.specs.L1Configurable.{conf_bits}
use Rattle.l1_signal.specs.L1Of.{conf_of, post_bits, told_shape}
use Rattle.l1_signal.specs.Laws.{DynReadBack, DynWritten, PostLength, ConfPartLength}
use Rattle.l1_signal.specs.Lengths.{conf_len, dyn_len}
use Rattle.site_frame.specs.Record.{Block}
use Rattle.site_frame.specs.declared.reading.RecordView.TheVariants.{Frame}
use Rattle.frame_groups.specs.Readable.{told_dynamic}
use Rattle.record_laws.specs.Frames.{frame_of, frame_shape, frame_cells, sent_blocks, l1_pre}
use Rattle.record_laws.specs.Laws.{ToldCountsFit}
use Rattle.gateway_core.specs.Signalling.{dyn_part}
use Rattle.stream_laws.proofs.FormedSignalLemmas.{conf_there, dynamic_there}
use Rattle.stream_laws.specs.Types.{TypesFit}
use Rattle.stream_laws.proofs.FrameSignalLemmas.{frame_told}
use Rattle.stream_laws.proofs.WrittenLemmas.{post_is}
use Rattle.region_swap.specs.Swapped.{counts_in, swapped_counts, swapped_view, replaced, input_blocks, post_with_counts}
use Rattle.region_swap.proofs.BlockLemmas.{replaced_is}
use Rattle.region_swap.proofs.TellLemmas.{from_told}

-- ---- inputs

pub own_input : (inputs : ℕ → List (List ℕ)) (plp : ℕ) (input : List (List ℕ)) → with_input inputs plp input plp ≡ input
own_input inputs plp input = cond-true (plp == plp) input (inputs plp) (eq-eqb plp plp refl)

pub other_input : (inputs : ℕ → List (List ℕ)) (plp : ℕ) (input : List (List ℕ)) (j : ℕ) → (j ≡ plp → ⊥)
    → with_input inputs plp input j ≡ inputs j
other_input inputs plp input j differ = cond-false (j == plp) input (inputs j) (ne_eqb j plp differ)

-- ---- counts

-- one of a list of numbers is replaced
pub set_map : (f g : ℕ → ℕ) (k a i x : ℕ) → i < k → g (a + i) ≡ x → ((j : ℕ) → (j ≡ a + i → ⊥) → g j ≡ f j)
    → slice_set (map f (range_with_len a k)) i x ≡ map g (range_with_len a k)
set_map f g zero a i x lt here others = absurd (omega arith)
set_map f g (suc k) a zero x lt here others =
    let e : a + 0 ≡ a = omega arith in
    ap₂ (λ (n : ℕ) (l : List ℕ). n ∷ l) (sym here ∙ ap g e)
    (map_same f g (a + 1) k (λ j le less. sym (others j (λ (same : j ≡ a + 0). absurd (omega arith)))))
set_map f g (suc k) a (suc i) x lt here others =
    let e : a + 1 + i ≡ a + suc i = omega arith in
    ap₂ (λ (n : ℕ) (l : List ℕ). n ∷ l) (sym (others a (λ (same : a ≡ a + suc i). absurd (omega arith))))
    (set_map f g k (a + 1) i x (omega arith) (ap g e ∙ here)
    (λ j differ. others j (λ same. differ (same ∙ sym e))))

-- What the laws of the crates below say.
pub record Laws : Type 0 where
  pub back : DynReadBack
  pub written : DynWritten
  pub post : PostLength
  pub conf : ConfPartLength
  pub told : ToldCountsFit
  pub fits : ShapeFitsL1
  pub counts : ShapeHasCounts

same_frame : (moment : Moment) (pre p q : List Bool) (x y : List Block) (s t : List (Option Cell)) → p ≡ q
    → x ≡ y → s ≡ t → Frame moment pre p x s ≡ Frame moment pre q y t
same_frame moment pre p q x y s t e f g = rw (e, f, g) refl

-- L1-post of a frame with so many blocks of each PLP: its parts
module _ (l : Laws) (c : Config) (n : ℕ) (counts : List ℕ) where
  abbrev dynamic : List Bool
  dynamic = dyn_part c n counts

  dynamic_long : length dynamic ≡ dyn_len (length c.plps)
  dynamic_long =
      let front : List Bool = conf_bits (conf_of c) ++ dynamic in
      let b = ap length (post_is c n counts) in
      omega (
        arith,
        l.post c n (shape_of c counts),
        length-append front (field 32 (crc32_of front)),
        length-field 32 (crc32_of front),
        length-append (conf_bits (conf_of c)) dynamic,
        l.conf c,
      )

  conf_is : take (conf_len (length c.plps)) (post_bits c n (shape_of c counts)) ≡ conf_bits (conf_of c)
  conf_is = ap (take (conf_len (length c.plps))) (sym (post_is c n counts)) ∙ conf_there c dynamic l.conf dynamic_long

  dynamic_is : part (post_bits c n (shape_of c counts)) (conf_len (length c.plps)) (dyn_len (length c.plps)) ≡ dynamic
  dynamic_is =
      rw (← (post_is c n counts), dynamic_there c dynamic l.conf dynamic_long)

module _ (l : Laws) (c : Config) (plp : ℕ) (inputs : ℕ → List (List ℕ)) (input : List (List ℕ)) (n : ℕ)
    (plan : IsPlan c) (types : TypesFit c) (inside : plp < length c.plps) where
  abbrev new : ℕ → List (List ℕ)
  new = with_input inputs plp input

  abbrev counts : List ℕ
  counts = told_counts c inputs n

  abbrev post : List Bool
  post = post_bits c n (frame_shape c inputs n)

  shape_told : option_map told_shape (told_dynamic c post) ≡ Some (frame_shape c inputs n)
  shape_told =
      rw (dynamic_is l c n counts, frame_told l.told l.back l.written l.fits c inputs n plan types)

  counts_are : counts_in c post ≡ counts
  counts_are = from_told (told_dynamic c post) (frame_shape c inputs n) shape_told ∙ l.counts c counts

  abbrev told_new : List ℕ
  told_new = told_counts c new n

  swapped_are : swapped_counts c plp input n post ≡ told_new
  swapped_are =
      let e : 0 + plp ≡ plp = omega arith in
      ap (λ (xs : List ℕ). slice_set xs plp (told_count c (λ _. input) n plp)) counts_are
      ∙ set_map (told_count c inputs n) (told_count c new n) (length c.plps) 0 plp (told_count c (λ _. input) n plp)
      inside
      (ap (told_count c new n) e ∙ ap (λ (i : List (List ℕ)). told_count c (λ _. i) n plp) (own_input inputs plp input))
      (λ j differ. ap (λ (i : List (List ℕ)). told_count c (λ _. i) n j)
      (other_input inputs plp input j (λ same. differ (same ∙ sym e))))

  post_new : post_with_counts c n (swapped_counts c plp input n post) post ≡ post_bits c n (frame_shape c new n)
  post_new =
      rw (conf_is l c n counts, swapped_are, post_is c n told_new)

  blocks_new : replaced c plp (input_blocks c plp input n) (sent_blocks c (own_blocks c inputs n)) ≡ sent_blocks
      c (own_blocks c new n)
  blocks_new =
      ap (λ (i : List (List ℕ)). replaced c plp (input_blocks c plp i n) (sent_blocks c (own_blocks c inputs n)))
      (sym (own_input inputs plp input))
      ∙ replaced_is c plan plp inside (own_blocks c inputs n) (own_blocks c new n)
      (λ j differ. ap (λ (i : List (List ℕ)). own_blocks c (λ _. i) n j) (other_input inputs plp input j differ))

  frame_new : swapped_view c plp input n (frame_of c inputs n) ≡ frame_of c new n
  frame_new =
      same_frame (emission c n) (l1_pre c) (post_with_counts c n (swapped_counts c plp input n post) post)
      (post_bits c n (frame_shape c new n)) (replaced c plp (input_blocks c plp input n)
      (sent_blocks c (own_blocks c inputs n)))
      (sent_blocks c (own_blocks c new n)) (frame_cells c (shape_of c (swapped_counts c plp input n post))
      (n % c.frames)) (frame_cells c (frame_shape c new n) (n % c.frames)) post_new blocks_new
      (ap (λ (k : List ℕ). frame_cells c (shape_of c k) (n % c.frames)) swapped_are)

pub frame_is_replaced : Laws → FrameIsReplaced
frame_is_replaced l c plp inputs input n plan types inside = frame_new l c plp inputs input n plan types inside
