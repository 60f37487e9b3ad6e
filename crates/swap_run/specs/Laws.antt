-- Laws of runs over two files.
use Rattle.std.specs.Prelude.{◌≡◌, ◌<◌, ℕ, List, length, Result, Ok, Err}
use Rattle.plp_config.specs.Capacity.{IsPlan}
use Rattle.plp_config.specs.declared.config.Config.{Config}
use Rattle.swap_run.specs.SwapRun.{SwapsAll, HasNone, MeetsBad, HasLate}
use Rattle.swap_run.specs.declared.stop.SwapRan.{SwapRan}
use Rattle.swap_run.specs.declared.stop.SwapStop.{SwapStop}
use Rattle.swap_run.specs.declared.stop.SwapStop.TheVariants.{NoSuperframe, InputRefused, TooManyFrames}

-- How a run must end over two files that are not too long, if nothing outside fails.
abbrev pub MustRun : Config → ℕ → (ℕ → List ℕ) → Result SwapRan SwapStop → Type 0
MustRun c plp files (Ok ran) = (bytes : List ℕ) × SwapsAll c plp files ran bytes
MustRun c plp files (Err NoSuperframe) = (bytes : List ℕ) × HasNone c files bytes
MustRun c plp files (Err (InputRefused packet)) = (bytes : List ℕ) × MeetsBad c plp files packet bytes
MustRun c plp files (Err TooManyFrames) = (bytes : List ℕ) × HasLate c plp files bytes

-- Two files decide how a run of a PLP of a plan over them must end.
abbrev pub OneRun : Type 0
OneRun = (c : Config) (plp : ℕ) (files : ℕ → List ℕ) (result other : Result SwapRan SwapStop) → IsPlan c
    → plp < length c.plps
    → MustRun c plp files result → MustRun c plp files other → result ≡ other

-- A run over two files has an ending.
abbrev pub RunEnds : Type 0
RunEnds = (c : Config) (plp : ℕ) (files : ℕ → List ℕ) → IsPlan c → plp < length c.plps
    → (result : Result SwapRan SwapStop)
    × MustRun c plp files result
