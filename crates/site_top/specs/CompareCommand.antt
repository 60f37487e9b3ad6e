-- What `compare CONFIG A B` does, up to its last line.
use Rattle.std.specs.Prelude.{◌≡◌, ◌≢◌, ◌≤◌, ℕ, List, None, Result, IfSome}
use Rattle.ports.specs.Desk.{State, bytes_of}
use Rattle.plp_config.specs.declared.config.Config.{Config}
use Rattle.plp_config.specs.declared.moment.TheConstants.{MOST_FRAMES}
use Rattle.stream_laws.specs.SentFrames.{run_length}
use Rattle.file_run.specs.Work.{Ends, Aloud}
use Rattle.file_run.specs.declared.stop.RunStop.{RunStop}
use Rattle.feed_merge.specs.Fed.{names_of}
use Rattle.compare_run.specs.Comparing.{answers, frames_of}
use Rattle.compare_run.specs.Runs.{first_differing}
use Rattle.compare_run.specs.declared.counts.CompareRan.{CompareRan}
use Rattle.compare_run.specs.CompareRun.{compare_work}
use Rattle.compare_run.specs.declared.stop.CompareStop.{CompareStop}
use Rattle.site_top.specs.declared.outcome.Outcome.{Outcome}
use Rattle.site_top.specs.declared.outcome.Outcome.TheVariants.{Differs}
use Rattle.site_top.specs.MergeCommand.{AreDamaged}
use Rattle.site_top.specs.Outcomes.{run_outcome, stop_outcome, compare_cause}
use Rattle.site_top.specs.PlanCommand.{ByPlan}

-- Of two streams that are what is received of one run of a gateway, with honest damage to either, no frame differs.
abbrev pub DamageIsAlike : Config → Type 0
DamageIsAlike c = (inputs : ℕ → List (List ℕ)) (a b : List ℕ) → run_length c inputs ≤ MOST_FRAMES
    → AreDamaged c inputs a b
    → first_differing (answers c (frames_of c a) (frames_of c b)) ≡ None

-- So two such streams are never told to differ.
abbrev pub NeverDiffers : Config → State → List ℕ → List ℕ → Outcome → Type 0
NeverDiffers c mid a b outcome = IfSome mid.held (λ h. (inputs : ℕ → List (List ℕ)) → run_length c inputs ≤ MOST_FRAMES
    → AreDamaged c inputs (bytes_of h.files a) (bytes_of h.files b) → (frame : ℕ) → outcome ≢ Differs frame)

-- the run, and its outcome: all lines were said in it
abbrev pub Follows : List ℕ → List ℕ → Config → State → State → Outcome → Type 0
Follows a b c mid new outcome = (result : Result CompareRan (RunStop CompareStop))
    × Ends (compare_work c) mid new Aloud (names_of a b) result
    × (outcome ≡ run_outcome (stop_outcome compare_cause) result) × NeverDiffers c mid a b outcome

-- `compare CONFIG A B`: CONFIG gives no plan, and nothing else is done; or the run follows.
abbrev pub Compares : State → State → List ℕ → List ℕ → List ℕ → Outcome → Type 0
Compares old new config a b outcome = ByPlan old new config (Follows a b) outcome
