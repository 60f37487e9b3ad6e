-- Two files decide how a run over them ends.
use Rattle.std.proofs.Common.{◌≡◌, ◌≢◌, ◌⊎◌, ℕ, ◌<◌, List, [], ◌∷◌, length, refl, ap, sym, ◌∙◌, inl, inr, arith}
use Rattle.std.specs.Prelude.{Result, Ok, Err}
use Rattle.modulator.specs.StandsFor.{records_of}
use Rattle.plp_config.specs.declared.config.Config.{Config}
use Rattle.frame_groups.specs.Modulated.{FrameRecord}
use Rattle.merge_run.specs.Counted.{counted}
use Rattle.merge_run.specs.Laws.{MustRun, OneRun, RunEnds}
use Rattle.merge_run.specs.MergeRun.{picked_of, units_of}
use Rattle.feed_merge.specs.Fed.{AreEarly}
use Rattle.merge_run.specs.declared.stop.MergeStop.{MergeStop}
use Rattle.merge_run.specs.declared.stop.MergeStop.TheVariants.{NoSuperframe, TooManyFrames}
use Rattle.merge_run.specs.declared.stop.MergeRan.{MergeRan}
use Rattle.feed_merge.proofs.EarlyLemmas.{not_late, early_none, early_or_late, some_is}
use Rattle.feed_merge.proofs.FilesLemmas.{two}

none_some : (c : Config) (files : ℕ → List ℕ) → ((input : ℕ) → input < 2 → records_of c (files input) ≡ [])
    → (records_of c (files 0) ≢ []) ⊎ (records_of c (files 1) ≢ []) → ⊥
none_some c files none (inl some) = some (none 0 (omega arith))
none_some c files none (inr some) = some (none 1 (omega arith))

pub one_run : OneRun
one_run c files (Ok ran) (Ok other) a b = ap Ok (a.2 ∙ sym b.2)
one_run c files (Ok ran) (Err NoSuperframe) a b = absurd (none_some c files b a.0)
one_run c files (Ok ran) (Err TooManyFrames) a b = absurd (not_late c files a.1 b)
one_run c files (Err NoSuperframe) (Ok other) a b = absurd (none_some c files a b.0)
one_run c files (Err NoSuperframe) (Err NoSuperframe) a b = refl
one_run c files (Err NoSuperframe) (Err TooManyFrames) a b = absurd (not_late c files (early_none c files a) b)
one_run c files (Err TooManyFrames) (Ok other) a b = absurd (not_late c files b.1 a)
one_run c files (Err TooManyFrames) (Err NoSuperframe) a b = absurd (not_late c files (early_none c files b) a)
one_run c files (Err TooManyFrames) (Err TooManyFrames) a b = refl

pub run_ends : RunEnds
run_ends c files = go (records_of c (files 0)) (records_of c (files 1)) refl refl
  where
    done : (records_of c (files 0) ≢ []) ⊎ (records_of c (files 1) ≢ []) → (result : Result MergeRan MergeStop)
        × MustRun c files result
    done some =
        elim (early_or_late (records_of c (files 0))) [
          | inr late ↦ (Err TooManyFrames, inl late)
          | inl first ↦ elim (early_or_late (records_of c (files 1))) [
            | inr late ↦ (Err TooManyFrames, inr late)
            | inl second ↦ (
              Ok (counted (picked_of c files) (length (units_of c files))),
              (some, two (λ (input : ℕ). AreEarly (records_of c (files input))) first second, refl),
            )
          ]
        ]

    go : (xs ys : List FrameRecord) → records_of c (files 0) ≡ xs → records_of c (files 1) ≡ ys
        → (result : Result MergeRan MergeStop) × MustRun c files result
    go [] [] a b = (Err NoSuperframe, two (λ (input : ℕ). records_of c (files input) ≡ []) a b)
    go [] (y ∷ ys) a b = done (inr (λ none. some_is y ys (sym b ∙ none)))
    go (x ∷ xs) ys a b = done (inl (λ none. some_is x xs (sym a ∙ none)))
