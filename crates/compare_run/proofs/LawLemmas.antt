-- Two files decide how a run over them ends.
use Rattle.std.proofs.Common.{◌≡◌, ◌≢◌, ◌⊎◌, ℕ, ◌<◌, List, [], ◌∷◌, Option, Some, None, refl, ap, sym, ◌∙◌, inl, inr}
use Rattle.std.proofs.Common.{arith}
use Rattle.std.specs.Prelude.{Result, Ok, Err}
use Rattle.std.proofs.lemmas.Option.{same_Some}
use Rattle.terms.proofs.OptionLemmas.{none_some}
use Rattle.plp_config.specs.declared.config.Config.{Config}
use Rattle.frame_groups.specs.Modulated.{FrameRecord}
use Rattle.modulator.specs.StandsFor.{records_of}
use Rattle.feed_merge.specs.Fed.{AreEarly}
use Rattle.feed_merge.proofs.FilesLemmas.{two}
use Rattle.compare_run.specs.Runs.{counts_of, first_differing}
use Rattle.compare_run.specs.declared.counts.CompareRan.{CompareRan}
use Rattle.compare_run.specs.CompareRun.{compared_of, HaveRecords}
use Rattle.compare_run.specs.Laws.{MustRun, OneRun, RunEnds}
use Rattle.compare_run.specs.declared.stop.CompareStop.{CompareStop}
use Rattle.compare_run.specs.declared.stop.CompareStop.TheVariants.{NoSuperframe, TooManyFrames, Differs}
use Rattle.feed_merge.proofs.EarlyLemmas.{not_late, early_none, early_or_late, some_is}

none_have : (c : Config) (files : ℕ → List ℕ) → ((input : ℕ) → input < 2 → records_of c (files input) ≡ [])
    → HaveRecords c files → ⊥
none_have c files none have = by have.some
  where
    by : (records_of c (files 0) ≢ []) ⊎ (records_of c (files 1) ≢ []) → ⊥
    by (inl some) = some (none 0 (omega arith))
    by (inr some) = some (none 1 (omega arith))

pub one_run : OneRun
one_run c files (Ok counts) (Ok other) a b = ap Ok (a.2 ∙ sym b.2)
one_run c files (Ok counts) (Err (Differs frame)) a b = none_some frame (sym a.1 ∙ b.1)
one_run c files (Ok counts) (Err NoSuperframe) a b = absurd (none_have c files b a.0)
one_run c files (Ok counts) (Err TooManyFrames) a b = absurd (not_late c files a.0.early b)
one_run c files (Err (Differs frame)) (Ok other) a b = none_some frame (sym b.1 ∙ a.1)
one_run c files (Err (Differs frame)) (Err (Differs another)) a b =
    ap (λ (n : ℕ). Err (Differs n)) (same_Some frame another (sym a.1 ∙ b.1))
one_run c files (Err (Differs frame)) (Err NoSuperframe) a b = absurd (none_have c files b a.0)
one_run c files (Err (Differs frame)) (Err TooManyFrames) a b = absurd (not_late c files a.0.early b)
one_run c files (Err NoSuperframe) (Ok other) a b = absurd (none_have c files a b.0)
one_run c files (Err NoSuperframe) (Err (Differs frame)) a b = absurd (none_have c files a b.0)
one_run c files (Err NoSuperframe) (Err NoSuperframe) a b = refl
one_run c files (Err NoSuperframe) (Err TooManyFrames) a b = absurd (not_late c files (early_none c files a) b)
one_run c files (Err TooManyFrames) (Ok other) a b = absurd (not_late c files b.0.early a)
one_run c files (Err TooManyFrames) (Err (Differs frame)) a b = absurd (not_late c files b.0.early a)
one_run c files (Err TooManyFrames) (Err NoSuperframe) a b = absurd (not_late c files (early_none c files b) a)
one_run c files (Err TooManyFrames) (Err TooManyFrames) a b = refl

pub run_ends : RunEnds
run_ends c files = go (records_of c (files 0)) (records_of c (files 1)) refl refl
  where
    by_first : HaveRecords c files → (first : Option ℕ) → first_differing (compared_of c files) ≡ first
        → (result : Result CompareRan CompareStop) × MustRun c files result
    by_first have None e = (Ok (counts_of (compared_of c files)), (have, e, refl))
    by_first have (Some frame) e = (Err (Differs frame), (have, e))

    done : (records_of c (files 0) ≢ []) ⊎ (records_of c (files 1) ≢ []) → (result : Result CompareRan CompareStop)
        × MustRun c files result
    done some =
        elim (early_or_late (records_of c (files 0))) [
          | inr late ↦ (Err TooManyFrames, inl late)
          | inl first ↦ elim (early_or_late (records_of c (files 1))) [
            | inr late ↦ (Err TooManyFrames, inr late)
            | inl second ↦ by_first
                (record {
                  some = some;
                  early = two (λ (input : ℕ). AreEarly (records_of c (files input)))
                      first second;
                })
                (first_differing (compared_of c files)) refl
          ]
        ]

    go : (xs ys : List FrameRecord) → records_of c (files 0) ≡ xs → records_of c (files 1) ≡ ys
        → (result : Result CompareRan CompareStop) × MustRun c files result
    go [] [] a b = (Err NoSuperframe, two (λ (input : ℕ). records_of c (files input) ≡ []) a b)
    go [] (y ∷ ys) a b = done (inr (λ none. some_is y ys (sym b ∙ none)))
    go (x ∷ xs) ys a b = done (inl (λ none. some_is x xs (sym a ∙ none)))
