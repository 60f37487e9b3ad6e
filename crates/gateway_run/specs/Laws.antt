-- Laws of runs over files, by how common PLPs are used.
use Rattle.std.specs.Prelude.{◌≡◌, ◌<◌, ◌≤◌, ℕ, List, length, Result, Ok, Err}
use Rattle.plp_config.specs.Capacity.{IsPlan}
use Rattle.plp_config.specs.declared.config.Config.{Config}
use Rattle.plp_config.specs.declared.moment.TheConstants.{MOST_FRAMES}
use Rattle.ts_packet.specs.TsFile.{HasBad}
use Rattle.common_plp.specs.Inputs.{input_count}
use Rattle.common_plp.specs.Sharing.{Sharing}
use Rattle.gateway_run.specs.GatewayRun.{frames_of, units_of, MeetsBad, HasTooManyFrames}
use Rattle.gateway_run.specs.declared.stop.GatewayRan.{GatewayRan}
use Rattle.gateway_run.specs.declared.stop.GatewayStop.{GatewayStop}
use Rattle.gateway_run.specs.declared.stop.GatewayStop.TheVariants.{Bad, TooManyFrames}

-- How a run over files must end of which none is too long, if nothing outside fails.
abbrev pub MustRun : Sharing → Config → (ℕ → List ℕ) → Result GatewayRan GatewayStop → Type 0
MustRun w c files (Ok ran) = ((input : ℕ) → input < input_count w c → ¬ (HasBad (files input)))
    × (ran.frames ≡ frames_of w c files)
    × (ran.units ≡ length (units_of w c files)) × (frames_of w c files ≤ MOST_FRAMES)
MustRun w c files (Err (Bad input packet)) = (frame : ℕ) × MeetsBad w c files frame input packet × (frame ≤ MOST_FRAMES)
MustRun w c files (Err TooManyFrames) = HasTooManyFrames w c files

-- Files decide how a run over them must end.
abbrev pub OneRun : Type 0
OneRun = (w : Sharing) (c : Config) (files : ℕ → List ℕ) (result other : Result GatewayRan GatewayStop)
    → MustRun w c files result
    → MustRun w c files other → result ≡ other

-- A run of a plan over files has an ending.
abbrev pub RunEnds : Type 0
RunEnds = (w : Sharing) (c : Config) (files : ℕ → List ℕ) → IsPlan c
    → (result : Result GatewayRan GatewayStop) × MustRun w c files result
