-- Laws of runs over a file.
use Rattle.std.specs.Prelude.{◌≡◌, ◌≢◌, ℕ, List, [], Result, Ok, Err}
use Rattle.modulator.specs.StandsFor.{records_of}
use Rattle.plp_config.specs.declared.config.Config.{Config}
use Rattle.modulate_run.specs.Counted.{counted}
use Rattle.modulate_run.specs.ModulateRun.{AreEarly}
use Rattle.modulate_run.specs.declared.stop.ModulateRan.{ModulateRan}
use Rattle.modulate_run.specs.declared.stop.ModulateStop.{ModulateStop}
use Rattle.modulate_run.specs.declared.stop.ModulateStop.TheVariants.{NoSuperframe, TooManyFrames}

-- How a run must end over a file that is not too long, if nothing outside fails.
abbrev pub MustRun : Config → List ℕ → Result ModulateRan ModulateStop → Type 0
MustRun c file (Ok ran) = (records_of c file ≢ []) × AreEarly (records_of c file) × (ran ≡ counted (records_of c file))
MustRun c file (Err NoSuperframe) = records_of c file ≡ []
MustRun c file (Err TooManyFrames) = ¬ (AreEarly (records_of c file))

-- A file decides how a run over it must end.
abbrev pub OneRun : Type 0
OneRun = (c : Config) (file : List ℕ) (result other : Result ModulateRan ModulateStop) → MustRun c file result
    → MustRun c file other
    → result ≡ other

-- A run over a file has an ending.
abbrev pub RunEnds : Type 0
RunEnds = (c : Config) (file : List ℕ) → (result : Result ModulateRan ModulateStop) × MustRun c file result
