-- What `receive CONFIG PLP IN OUT` and `common receive CONFIG PLP IN OUT` do, up to their last line.
use Rattle.std.specs.Prelude.{◌≡◌, ◌⊎◌, ℕ, List, [], ◌∷◌, Ok, Err}
use Rattle.ports.specs.Desk.{State}
use Rattle.plp_config.specs.declared.config.Config.{Config}
use Rattle.common_plp.specs.Sharing.{Sharing, Apart, Joint, joined_with, IsPlaceBy, HasNoPlaceBy}
use Rattle.file_run.specs.Work.{Ends as RunEnds, Into}
use Rattle.file_run.specs.declared.stop.RunStop.{RunStop}
use Rattle.receive_run.specs.JoinedRun.{receive_work}
use Rattle.receive_run.specs.declared.stop.ReceiveRan.{ReceiveRan}
use Rattle.receive_run.specs.declared.stop.ReceiveStop.{ReceiveStop}
use Rattle.site_top.specs.declared.outcome.Outcome.{Outcome}
use Rattle.site_top.specs.declared.outcome.Outcome.TheVariants.{UnknownPlp}
use Rattle.site_top.specs.CommonReceiveCommand.{HoldsWhatIsJoined}
use Rattle.site_top.specs.Outcomes.{receive_cause}
use Rattle.site_top.specs.PlanCommand.{RunsAndTells, ByPlan}
use Rattle.site_top.specs.ReceiveCommand.{receive_line, HoldsWhatComesBack}

-- what the output holds
abbrev pub HoldsBack : Sharing → Config → ℕ → State → State → List ℕ → List ℕ → Type 0
HoldsBack Apart c plp old new file out = HoldsWhatComesBack c plp old new file out
HoldsBack Joint c plp old new file out = HoldsWhatIsJoined c plp old new file out

-- a run to its end, and one that stops
abbrev pub Ends : Sharing → List ℕ → List ℕ → Config → ℕ → State → State → ReceiveRan → Type 0
Ends sharing file out c plp mid after ran =
    RunEnds (receive_work (joined_with sharing c plp) c plp) mid after (Into out) (file ∷ []) (Ok ran)
    × HoldsBack sharing c plp mid after file out

abbrev pub StopsSo : Sharing → List ℕ → List ℕ → Config → ℕ → State → State → RunStop ReceiveStop → Type 0
StopsSo sharing file out c plp mid new stop =
    RunEnds (receive_work (joined_with sharing c plp) c plp) mid new (Into out) (file ∷ []) (Err stop)

-- No PLP that can be asked for has the identifier, and nothing else is done; or the run follows.
abbrev pub Follows : Sharing → ℕ → List ℕ → List ℕ → Config → State → State → Outcome → Type 0
Follows sharing id file out c mid new outcome =
    (HasNoPlaceBy sharing c id × (new ≡ mid) × (outcome ≡ UnknownPlp id))
    ⊎ ((plp : ℕ) × IsPlaceBy sharing c id plp
    × RunsAndTells (Ends sharing file out c plp) (StopsSo sharing file out c plp) receive_line receive_cause
    mid new outcome)

-- CONFIG gives no plan, and nothing else is done; or what follows does. With `common receive` a common PLP cannot be
-- asked for, and its packets are joined with those of the PLPs of its group.
abbrev pub Receives : Sharing → State → State → List ℕ → ℕ → List ℕ → List ℕ → Outcome → Type 0
Receives sharing old new config id file out outcome = ByPlan old new config (Follows sharing id file out) outcome
