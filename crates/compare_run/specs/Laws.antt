-- Laws of runs over two files.
use Rattle.std.specs.Prelude.{◌≡◌, ◌⊎◌, ◌<◌, ℕ, List, [], Result, Ok, Err, Some, None}
use Rattle.plp_config.specs.declared.config.Config.{Config}
use Rattle.modulator.specs.StandsFor.{records_of}
use Rattle.feed_merge.specs.Fed.{AreEarly}
use Rattle.compare_run.specs.Runs.{counts_of, first_differing}
use Rattle.compare_run.specs.declared.counts.CompareRan.{CompareRan}
use Rattle.compare_run.specs.CompareRun.{compared_of, HaveRecords}
use Rattle.compare_run.specs.declared.stop.CompareStop.{CompareStop}
use Rattle.compare_run.specs.declared.stop.CompareStop.TheVariants.{NoSuperframe, TooManyFrames, Differs}

-- How a run must end over two files that are not too long, if nothing outside fails.
abbrev pub MustRun : Config → (ℕ → List ℕ) → Result CompareRan CompareStop → Type 0
MustRun c files (Ok counts) =
    HaveRecords c files × (first_differing (compared_of c files) ≡ None) × (counts ≡ counts_of (compared_of c files))
MustRun c files (Err (Differs frame)) = HaveRecords c files × (first_differing (compared_of c files) ≡ Some frame)
MustRun c files (Err NoSuperframe) = (input : ℕ) → input < 2 → records_of c (files input) ≡ []
MustRun c files (Err TooManyFrames) = (¬ (AreEarly (records_of c (files 0)))) ⊎ (¬ (AreEarly (records_of c (files 1))))

-- Two files decide how a run over them must end.
abbrev pub OneRun : Type 0
OneRun = (c : Config) (files : ℕ → List ℕ) (result other : Result CompareRan CompareStop) → MustRun c files result
    → MustRun c files other → result ≡ other

-- A run over two files has an ending.
abbrev pub RunEnds : Type 0
RunEnds = (c : Config) (files : ℕ → List ℕ) → (result : Result CompareRan CompareStop) × MustRun c files result
