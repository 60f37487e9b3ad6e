-- Interleaving frames that are carried by one frame.
use Rattle.std.proofs.Common.{◌≡◌, ℕ, ◌+◌, ◌-◌, ◌%◌, ◌==◌, ◌<◌, Bool, true, List, [], ◌∷◌, length, take}
use Rattle.std.proofs.Common.{drop, Option, Some, None, refl, ap, ap₂, ◌∙◌, sym, arith, cond}
use Rattle.std.specs.Prelude.{option_map, slice_get, slice_index}
use Rattle.std.specs.List.{range_with_len}
use Rattle.std.proofs.lemmas.Bool.{eq-eqb, le-leb}
use Rattle.std.proofs.lemmas.List.FromFn.{fill_by_all}
use Rattle.terms.proofs.ListLemmas.{drop_some}
use Rattle.plp_config.specs.InterleavingFrames.{is_first}
use Rattle.plp_config.specs.Plps.{spread}
use Rattle.plp_config.specs.declared.config.Config.{Config}
use Rattle.site_frame.specs.declared.reading.RecordView.{RecordView}
use Rattle.plp_receiver.specs.Parts.{Part}
use Rattle.plp_receiver.specs.Epochs.{part_of, with_part, parts_of, agreeing, epoch_parts, epochs_in}
use Rattle.plp_receiver.specs.Laws.{OneFrame, AllCome}

one_taken : (views : List RecordView) (k : ℕ) (v : RecordView) → slice_get views k ≡ Some v
    → take 1 (drop k views) ≡ v ∷ []
one_taken views k v e = ap (take 1) (drop_some views k v e)

one_agrees : (plp : ℕ) (o : Option Part) → agreeing plp (with_part o (Some [])) ≡ option_map (λ p. p ∷ []) o
one_agrees plp None = refl
one_agrees plp (Some p) = refl

parts_of_one : (c : Config) (plp n : ℕ) (v : RecordView) → agreeing plp (parts_of c n (v ∷ []))
    ≡ option_map (λ p. p ∷ []) (part_of c n v)
unfolding parts_of
parts_of_one c plp n v = one_agrees plp (part_of c n v)

module _ (c : Config) (plp first : ℕ) (views : List RecordView) (one : spread c.plps plp ≡ 1) where
  parts_are : (place : ℕ) (v : RecordView) → slice_get views place ≡ Some v
      → epoch_parts c plp first views (first + place) ≡ option_map (λ p. p ∷ []) (part_of c (first + place) v)
  parts_are place v e = grind (arith, le-leb, Option, one_taken, parts_of_one)

  epochs_are : epochs_in (spread c.plps plp) first (length views) ≡ range_with_len first (length views)
  epochs_are = ap (λ (s : ℕ). epochs_in s first (length views)) one ∙ ap₂ range_with_len (omega arith) (omega arith)

pub one_frame : OneFrame
one_frame c plp first views one =
    record { epochs = epochs_are c plp first views one; parts = parts_are c plp first views one }

pub all_come : AllCome
all_come c n shape alone long =
    sym (fill_by_all (λ p. cond {A = ℕ} (is_first c p n) (slice_index shape.counts p) 0) shape.counts
    (length c.plps) 0 long
    (λ p inside. sym (ap (λ (b : Bool). cond {A = ℕ} b (slice_index shape.counts p) 0) (begins p inside))))
  where
    begins : (p : ℕ) → p < length c.plps → is_first c p n ≡ true
    begins p inside = ap (λ (s : ℕ). n % s == 0) (alone p inside) ∙ eq-eqb (n % 1) 0 (omega arith)
