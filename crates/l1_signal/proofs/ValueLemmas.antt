-- The values of a frame, PLP by PLP.
use Rattle.std.proofs.Common.{◌≡◌, ℕ, ◌%◌, ◌^◌, ◌<◌, List, length, map, get_or, refl, sym, ◌∙◌, arith}
use Rattle.std.proofs.lemmas.List.{ext_get_or, get_or-map, length-map}
use Rattle.std.proofs.lemmas.List.FromFn.{get_or-map-range_with_len, length-map-range_with_len}
use Rattle.plp_config.specs.Plps.{plp_at}
use Rattle.plp_config.specs.declared.config.Config.{Config}
use Rattle.scheduler.specs.Laws.{FitsL1}
use Rattle.scheduler.specs.Shape.{FrameShape}
use Rattle.l1_signal.specs.declared.dyn_plp.DynPlp.{DynPlp}
use Rattle.l1_signal.specs.declared.dynamic.L1Dyn.{L1Dyn}
use Rattle.l1_signal.specs.Fields.{Fits, RowsFit}
use Rattle.l1_signal.specs.L1Dynamic.{DynFits, no_dyn_plp}
use Rattle.l1_signal.specs.L1Of.{dyn_of, told_shape}
use Rattle.l1_signal.proofs.ReadLemmas.{pow_pos}

-- a list of the values of another one, place by place
pub mapped : {A B : Type 0} (f : A → B) (ys : List A) (xs : List B) (d : A) (e : B) → length xs ≡ length ys
    → ((k : ℕ) → k < length ys → get_or xs k e ≡ f (get_or ys k d)) → xs ≡ map f ys
mapped f ys xs d e same each =
    let size = length-map ys f in
    ext_get_or e xs (map f ys) (omega (arith, same, size))
    (λ k lt. let inside : k < length ys = omega (arith, lt, same) in each k inside ∙ sym (get_or-map f ys k d e inside))

-- the dynamic part fits its fields if the shape does
pub dyn_numbers_fit : (c : Config) (frame : ℕ) (shape : FrameShape)
    → ((place : ℕ) → place < length c.plps → (plp_at c.plps place).id < 2 ^ 8) → frame % c.frames < 2 ^ 8 → FitsL1 shape
    → DynFits (dyn_of c frame shape)
unfolding dyn_of RowsFit Fits
dyn_numbers_fit c frame shape ids idx s =
    grind (arith, pow_pos, length-map-range_with_len, get_or-map-range_with_len)

joined : (shape : FrameShape) (counts starts : List ℕ) (interval start : ℕ) → shape.counts ≡ counts
    → shape.starts ≡ starts
    → shape.interval ≡ interval → shape.type2_start ≡ start →
    shape ≡ record { counts = counts; starts = starts; interval = interval; type2_start = start }
joined shape counts starts interval start p q r t = rw (← p, ← q, ← r, ← t) refl

-- the shape that is told, from its lists
pub shape_is : (dynamic : L1Dyn) (shape : FrameShape) → length shape.counts ≡ length dynamic.plps → length shape.starts
    ≡ length dynamic.plps →
    ((k : ℕ) → k < length dynamic.plps → get_or shape.counts k 0 ≡ (get_or dynamic.plps k no_dyn_plp).plp_num_blocks) →
    ((k : ℕ) → k < length dynamic.plps → get_or shape.starts k 0 ≡ (get_or dynamic.plps k no_dyn_plp).plp_start) →
    shape.interval ≡ dynamic.sub_slice_interval → shape.type2_start ≡ dynamic.type_2_start → shape ≡ told_shape dynamic
unfolding told_shape
shape_is dynamic shape a b counts starts interval start =
    joined shape _ _ _ _ (mapped (λ (plp : DynPlp). plp.plp_num_blocks) dynamic.plps shape.counts no_dyn_plp 0 a counts)
    (mapped (λ (plp : DynPlp). plp.plp_start) dynamic.plps shape.starts no_dyn_plp 0 b starts) interval start
