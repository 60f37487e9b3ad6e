-- The records of a run are on the grid.
use Rattle.std.proofs.Common.{◌≡◌, ℕ, zero, suc, ◌+◌, ◌-◌, ◌%◌, ◌^◌, ◌<◌, ◌≤◌, ◌==◌, ◌&&◌, Bool, true, false, cond}
use Rattle.std.proofs.Common.{Option, Some}
use Rattle.std.proofs.Common.{None, List, [], ◌∷◌, length, refl, sym, ap, ap₂, subst, ◌∙◌, arith, inl, inr}
use Rattle.std.specs.Prelude.{map, find}
use Rattle.std.specs.List.{range_with_len}
use Rattle.std.proofs.lemmas.Bool.{eqb-true, eq-eqb, and_parts}
use Rattle.std.proofs.Math.Nat.{zero-mod}
use Rattle.std.proofs.lemmas.List.FromFn.{length-map-range_with_len}
use Rattle.plp_config.specs.Emission.{emission}
use Rattle.plp_config.specs.RunLength.{frame_count}
use Rattle.plp_config.specs.declared.config.Config.{Config}
use Rattle.site_frame.specs.Whole.{moment_of}
use Rattle.site_frame.specs.declared.reading.RecordView.{RecordView}
use Rattle.site_frame.specs.declared.reading.RecordView.TheVariants.{Muted}
use Rattle.record_laws.specs.Frames.{frame_of}
use Rattle.site_frame.specs.RecordFile.{IsOnGrid}
use Rattle.record_laws.specs.Records.{numbers_from, record_numbers, record_of, records}
use Rattle.record_laws.specs.Laws.{StandsOnGrid, RecordsOnGrid, AllWhole}

-- a record has the moment of its frame, whole or muted
pub moment_either : (b : Bool) (frame : RecordView) (c : Config) (n : ℕ) → moment_of frame ≡ emission c n
    → moment_of (cond b frame (Muted (emission c n))) ≡ emission c n
moment_either true frame c n e = e
moment_either false frame c n e = refl

-- each record has the moment of its frame
moments_are : (c : Config) (inputs : ℕ → List (List ℕ)) (whole : ℕ → Bool) (ns : List ℕ)
    → map moment_of (map (record_of c inputs whole) ns) ≡ map (emission c) ns
moments_are c inputs whole [] = refl
moments_are c inputs whole (n ∷ ns) = ap₂ (λ x xs. x ∷ xs) (moment_either (whole n) (frame_of c inputs n) c n refl)
    (moments_are c inputs whole ns)

grid_of : (c : Config) (inputs : ℕ → List (List ℕ)) (whole : ℕ → Bool) (views : List RecordView) (first count : ℕ)
    → views ≡ map (record_of c inputs whole) (range_with_len first count) → first + count ≤ 2 ^ 31
    → IsOnGrid c first views
grid_of c inputs whole views first count e small =
    let len : length views ≡ count = ap (λ (vs : List RecordView). length vs) e
    ∙ length-map-range_with_len (record_of c inputs whole) first count in
    record {
      moments = ap (map moment_of) e ∙ moments_are c inputs whole (range_with_len first count)
          ∙ ap (λ (k : ℕ). map (emission c) (range_with_len first k)) (sym len);
      small = omega (arith, len, small);
    }

-- what is found passes, and lies below the end
pub record Found (test : ℕ → Bool) (from count n : ℕ) : Type 0 where
  pub passes : test n ≡ true
  pub below : n < from + count

pub found : (test : ℕ → Bool) (from count n : ℕ) → find test (range_with_len from count) ≡ Some n
    → Found test from count n
found test from zero n e = absurd cc
found test from (suc count) n e = here (test from) refl e (λ more. let f = found test (from + 1) count n more in
    record { passes = f.passes; below = omega (arith, f.below) })
  where
    here : (b : Bool) → test from ≡ b → cond b (Some from) (find test (range_with_len (from + 1) count)) ≡ Some n
        → (find test (range_with_len (from + 1) count) ≡ Some n → Found test from (suc count) n)
        → Found test from (suc count) n
    here true t e next = let same : from ≡ n = cc in
        record { passes = subst (λ (k : ℕ). test k ≡ true) same t; below = omega (arith, same) }
    here false t e next = next e

stands : (c : Config) (inputs : ℕ → List (List ℕ)) (whole : ℕ → Bool) (end : ℕ) (r : Option ℕ)
    → find (λ n. whole n && (n % c.frames == 0)) (range_with_len 0 end) ≡ r → end ≤ 2 ^ 31
    → StandsOnGrid c inputs whole end
stands c inputs whole end None e small =
    let none : records c inputs whole end ≡ [] = ap (λ (r : Option ℕ). map (record_of c inputs whole)
    (numbers_from end r)) e in
    record {
      first = 0;
      grid = grid_of c inputs whole (records c inputs whole end) 0 0 none (omega arith);
      begins = inl none;
    }
stands c inputs whole end (Some n) e small =
    let f = found (λ n. whole n && (n % c.frames == 0)) 0 end n e in
    let some : records c inputs whole end ≡ map (record_of c inputs whole) (range_with_len n (end - n)) =
    ap (λ (r : Option ℕ). map (record_of c inputs whole) (numbers_from end r)) e in
    let len : length (records c inputs whole end) ≡ end - n = ap (λ (vs : List RecordView). length vs) some
    ∙ length-map-range_with_len (record_of c inputs whole) n (end - n) in
    let t = and_parts (whole n) (n % c.frames == 0) f.passes in
    record {
      first = n;
      grid = grid_of c inputs whole (records c inputs whole end) n (end - n) some (omega (arith, f.below, small));
      begins = inr (eqb-true _ _ t.1, t.0, omega (arith, len, f.below));
    }

pub records_on_grid : RecordsOnGrid
records_on_grid c inputs whole end small =
    stands c inputs whole end (find (λ n. whole n && (n % c.frames == 0)) (range_with_len 0 end)) refl small

-- ---- all frames whole

same_frames : (c : Config) (inputs : ℕ → List (List ℕ)) (ns : List ℕ) → map (record_of c inputs (λ n. true)) ns
    ≡ map (frame_of c inputs) ns
same_frames c inputs [] = refl
same_frames c inputs (n ∷ ns) = ap (λ (views : List RecordView). frame_of c inputs n ∷ views) (same_frames c inputs ns)

-- the first frame begins a superframe
all_numbers : (c : Config) (end : ℕ) → record_numbers c (λ n. true) end ≡ range_with_len 0 end
all_numbers c zero = refl
all_numbers c (suc end) =
    let zero_first : (0 % c.frames == 0) ≡ true = eq-eqb _ _ (zero-mod c.frames) in
    let all : suc end - 0 ≡ suc end = omega arith in
    ap (λ (b : Bool). numbers_from (suc end) (cond b (Some 0) (find (λ n. true && (n % c.frames == 0))
    (range_with_len 1 end))))
    zero_first
    ∙ ap (range_with_len 0) all

pub all_whole : AllWhole
all_whole c inputs =
    let end : ℕ = frame_count c (λ plp. length (inputs plp)) in
    ap (map (record_of c inputs (λ n. true))) (all_numbers c end) ∙ same_frames c inputs (range_with_len 0 end)
