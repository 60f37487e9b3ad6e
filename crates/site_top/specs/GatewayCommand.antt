-- What `gateway CONFIG OUT IN..` and `common gateway CONFIG OUT IN..` do, up to their last line.
use Rattle.std.specs.Prelude.{◌≡◌, ◌⊎◌, ℕ, List, ◌++◌, length, codes, Ok, Err}
use Rattle.std.specs.Fmt.{decimal}
use Rattle.ports.specs.Desk.{State}
use Rattle.plp_config.specs.declared.config.Config.{Config}
use Rattle.common_plp.specs.Inputs.{input_count}
use Rattle.common_plp.specs.Sharing.{Sharing}
use Rattle.file_run.specs.Work.{Ends as RunEnds, Into}
use Rattle.file_run.specs.declared.stop.RunStop.{RunStop}
use Rattle.gateway_run.specs.GatewayRun.{gateway_work}
use Rattle.gateway_run.specs.declared.stop.GatewayStop.{GatewayStop}
use Rattle.gateway_run.specs.declared.stop.GatewayRan.{GatewayRan}
use Rattle.site_top.specs.declared.outcome.Outcome.{Outcome}
use Rattle.site_top.specs.Outcomes.{gateway_cause, Miscounts}
use Rattle.site_top.specs.PlanCommand.{RunsAndTells, ByPlan}

-- the line of a run to its end
abbrev pub gateway_line : GatewayRan → List ℕ
gateway_line ran = codes "frames=" ++ decimal ran.frames ++ codes " units=" ++ decimal ran.units ++ codes "\n"

-- a run to its end, and one that stops
abbrev pub Ends : Sharing → List ℕ → List (List ℕ) → Config → State → State → GatewayRan → Type 0
Ends sharing out ins c mid after ran = RunEnds (gateway_work sharing c) mid after (Into out) ins (Ok ran)

abbrev pub StopsSo : Sharing → List ℕ → List (List ℕ) → Config → State → State → RunStop GatewayStop → Type 0
StopsSo sharing out ins c mid new stop = RunEnds (gateway_work sharing c) mid new (Into out) ins (Err stop)

-- There is not one input for each PLP that has one, and nothing is done; or the run follows.
abbrev pub Follows : Sharing → List ℕ → List (List ℕ) → Config → State → State → Outcome → Type 0
Follows sharing out ins c mid new outcome = ((new ≡ mid) × Miscounts sharing c ins outcome)
    ⊎ ((length ins ≡ input_count sharing c)
    × RunsAndTells (Ends sharing out ins c) (StopsSo sharing out ins c) gateway_line gateway_cause mid new outcome)

-- The file gives no plan, and nothing else is done; or what follows of the plan. With `common gateway` a common PLP has
-- no input: it carries what the inputs of its group share.
abbrev pub Gateways : Sharing → State → State → List ℕ → List ℕ → List (List ℕ) → Outcome → Type 0
Gateways sharing old new config out ins outcome = ByPlan old new config (Follows sharing out ins) outcome
