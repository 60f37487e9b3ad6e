-- What `modulate CONFIG IN OUT` does, up to its last line.
use Rattle.std.specs.Prelude.{◌≡◌, ◌≤◌, List, [], ◌∷◌, ℕ, ◌++◌, codes, IfSome, Ok, Err}
use Rattle.std.specs.Fmt.{decimal}
use Rattle.ports.specs.Desk.{State, bytes_of}
use Rattle.plp_config.specs.declared.config.Config.{Config}
use Rattle.plp_config.specs.declared.moment.TheConstants.{MOST_FRAMES}
use Rattle.t2mi_stream.specs.Received.{Fate}
use Rattle.record_laws.specs.Records.{file_bytes}
use Rattle.stream_laws.specs.Streams.{Honest}
use Rattle.stream_laws.specs.SentFrames.{run_length, run_stream, stream_bytes, all_kept, run_records}
use Rattle.file_run.specs.Work.{Ends as RunEnds, Into}
use Rattle.file_run.specs.declared.stop.RunStop.{RunStop}
use Rattle.file_run.specs.declared.stop.RunStop.TheVariants.{Refused, Files, OutOfMemory}
use Rattle.modulate_run.specs.ModulateRun.{modulate_work}
use Rattle.modulate_run.specs.declared.stop.ModulateRan.{ModulateRan}
use Rattle.modulate_run.specs.declared.stop.ModulateStop.{ModulateStop}
use Rattle.modulate_run.specs.declared.stop.ModulateStop.TheVariants.{NoSuperframe, TooManyFrames}
use Rattle.site_top.specs.declared.outcome.Outcome.{Outcome}
use Rattle.site_top.specs.Outcomes.{modulate_cause}
use Rattle.site_top.specs.PlanCommand.{RunsAndTells, ByPlan}

-- the line of a run to its end
abbrev pub modulate_line : ModulateRan → List ℕ
modulate_line ran = codes "first=" ++ decimal ran.first ++ codes " records=" ++ decimal ran.records ++ codes " muted="
    ++ decimal ran.muted ++ codes "\n"

-- If a file is what is received of the stream that a gateway makes of some inputs, these bytes are the records that
-- must come: those of the frames of the run, from the first whole one that begins a superframe to the last one of which
-- a packet survives, each whole frame as all transmitters send it, and each frame that lacks a packet muted.
pub record MustCome (c : Config) (file bytes : List ℕ) : Type 0 where
  -- whatever becomes of the units from one on, if damage is honest
  pub honest : (inputs : ℕ → List (List ℕ)) (from : ℕ) (fates : List Fate) → run_length c inputs ≤ MOST_FRAMES
      → Honest (run_stream c inputs) from fates
      → file ≡ stream_bytes (run_stream c inputs) from fates → bytes ≡ file_bytes (run_records c inputs from fates)
  -- and if all units from one on came as they were sent; nothing is asked of damage then
  pub undamaged : (inputs : ℕ → List (List ℕ)) (from : ℕ) → run_length c inputs ≤ MOST_FRAMES
      → file ≡ stream_bytes (run_stream c inputs) from (all_kept (run_stream c inputs) from)
      → bytes ≡ file_bytes (run_records c inputs from (all_kept (run_stream c inputs) from))

-- So it is with the bytes of IN and OUT.
abbrev pub HoldsWhatMustCome : Config → State → State → List ℕ → List ℕ → Type 0
HoldsWhatMustCome c old new file out =
    IfSome old.held (λ h. IfSome new.held (λ k. MustCome c (bytes_of h.files file) (bytes_of k.files out)))

-- So it is also if IN has no record, and OUT is empty.
abbrev pub StopsWith : Config → State → State → List ℕ → List ℕ → RunStop ModulateStop → Type 0
StopsWith c old new file out (Refused NoSuperframe) = HoldsWhatMustCome c old new file out
StopsWith c old new file out (Refused TooManyFrames) = Unit {0}
StopsWith c old new file out (Files fault) = Unit {0}
StopsWith c old new file out OutOfMemory = Unit {0}

-- a run to its end, and one that stops
abbrev pub Ends : List ℕ → List ℕ → Config → State → State → ModulateRan → Type 0
Ends file out c mid after ran = RunEnds (modulate_work c) mid after (Into out) (file ∷ []) (Ok ran)
    × HoldsWhatMustCome c mid after file out

abbrev pub StopsSo : List ℕ → List ℕ → Config → State → State → RunStop ModulateStop → Type 0
StopsSo file out c mid new stop = RunEnds (modulate_work c) mid new (Into out) (file ∷ []) (Err stop)
    × StopsWith c mid new file out stop

-- the run
abbrev pub Follows : List ℕ → List ℕ → Config → State → State → Outcome → Type 0
Follows file out c mid new outcome = RunsAndTells (Ends file out c) (StopsSo file out c) modulate_line
    modulate_cause mid new outcome

-- `modulate CONFIG IN OUT`: CONFIG gives no plan, and nothing else is done; or the run follows.
abbrev pub Modulates : State → State → List ℕ → List ℕ → List ℕ → Outcome → Type 0
Modulates old new config file out outcome = ByPlan old new config (Follows file out) outcome
