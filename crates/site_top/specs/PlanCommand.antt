-- What a command does that runs a machine by the plan of CONFIG, up to its last line. A command adds what follows the
-- plan.
use Rattle.std.specs.Prelude.{◌≡◌, ◌⊎◌, List, ℕ}
use Rattle.ports.specs.Desk.{State}
use Rattle.plp_config.specs.Capacity.{IsPlan}
use Rattle.plp_config.specs.declared.config.Config.{Config}
use Rattle.file_run.specs.ConfigFile.{Gives, GivesNoPlan}
use Rattle.file_run.specs.declared.config_stop.ConfigStop.{ConfigStop}
use Rattle.file_run.specs.declared.stop.RunStop.{RunStop}
use Rattle.site_top.specs.declared.outcome.Outcome.{Outcome}
use Rattle.site_top.specs.Outcomes.{config_outcome, stop_outcome}
use Rattle.site_top.specs.Saying.{Tells}

-- By what a run does that comes to its end, and what one does that stops, by the line of the first, and by the outcomes
-- of the machine's own causes: the run stops, and that is the outcome; or it comes to its end, and then its line is
-- told.
abbrev pub RunsAndTells : {R E : Type 0} → (State → State → R → Type 0) → (State → State → RunStop E → Type 0)
    → (R → List ℕ)
    → (E → Outcome) → State → State → Outcome → Type 0
RunsAndTells {R = R} {E = E} Ends Stops line cause mid new outcome =
    ((stop : RunStop E) × Stops mid new stop × (outcome ≡ stop_outcome cause stop))
    ⊎ ((ran : R) × (after : State) × Ends mid after ran × Tells after new (line ran) outcome)

-- CONFIG gives no plan, and nothing else is done; or what follows of the plan.
abbrev pub ByPlan : State → State → List ℕ → (Config → State → State → Outcome → Type 0) → Outcome → Type 0
ByPlan old new config Follows outcome =
    ((stop : ConfigStop) × GivesNoPlan old new config stop × (outcome ≡ config_outcome stop))
    ⊎ ((c : Config) × (mid : State) × Gives old mid config c × IsPlan c × Follows c mid new outcome)
