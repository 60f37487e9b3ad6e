-- Laws of runs over two files.
use Rattle.std.specs.Prelude.{◌≡◌, ◌≢◌, ◌⊎◌, ◌<◌, ℕ, List, [], length, Result, Ok, Err}
use Rattle.modulator.specs.StandsFor.{records_of}
use Rattle.plp_config.specs.declared.config.Config.{Config}
use Rattle.merge_run.specs.Counted.{counted}
use Rattle.merge_run.specs.MergeRun.{picked_of, units_of}
use Rattle.feed_merge.specs.Fed.{AreEarly}
use Rattle.merge_run.specs.declared.stop.MergeRan.{MergeRan}
use Rattle.merge_run.specs.declared.stop.MergeStop.{MergeStop}
use Rattle.merge_run.specs.declared.stop.MergeStop.TheVariants.{NoSuperframe, TooManyFrames}

-- How a run must end over two files that are not too long, if nothing outside fails.
abbrev pub MustRun : Config → (ℕ → List ℕ) → Result MergeRan MergeStop → Type 0
MustRun c files (Ok ran) =
    ((records_of c (files 0) ≢ []) ⊎ (records_of c (files 1) ≢ [])) × ((input : ℕ) → input < 2
    → AreEarly (records_of c (files input)))
    × (ran ≡ counted (picked_of c files) (length (units_of c files)))
MustRun c files (Err NoSuperframe) = (input : ℕ) → input < 2 → records_of c (files input) ≡ []
MustRun c files (Err TooManyFrames) = (¬ (AreEarly (records_of c (files 0)))) ⊎ (¬ (AreEarly (records_of c (files 1))))

-- Two files decide how a run over them must end.
abbrev pub OneRun : Type 0
OneRun = (c : Config) (files : ℕ → List ℕ) (result other : Result MergeRan MergeStop) → MustRun c files result
    → MustRun c files other
    → result ≡ other

-- A run over two files has an ending.
abbrev pub RunEnds : Type 0
RunEnds = (c : Config) (files : ℕ → List ℕ) → (result : Result MergeRan MergeStop) × MustRun c files result
