-- What `show config FILE` and `plan CONFIG` do, up to their last line.
use Rattle.std.specs.Prelude.{◌≡◌, ◌⊎◌, ℕ, List}
use Rattle.ports.specs.Desk.{State}
use Rattle.plp_config.specs.Capacity.{IsPlan}
use Rattle.plp_config.specs.declared.config.Config.{Config}
use Rattle.config_text.specs.ConfigText.{canonical_text}
use Rattle.file_run.specs.ConfigFile.{Gives, GivesNone, GivesNoPlan}
use Rattle.file_run.specs.declared.config_stop.ConfigStop.{ConfigStop}
use Rattle.site_top.specs.declared.outcome.Outcome.{Outcome}
use Rattle.site_top.specs.Outcomes.{config_outcome}
use Rattle.site_top.specs.PlanLines.{IsPlanText}
use Rattle.site_top.specs.Saying.{Tells}

-- `show config FILE`: the file gives no configuration, and nothing is said; or the text that is written of its
-- configuration is told.
abbrev pub ShowsConfig : State → State → List ℕ → Outcome → Type 0
ShowsConfig old new name outcome =
    ((stop : ConfigStop) × GivesNone old new name stop × (outcome ≡ config_outcome stop))
    ⊎ ((c : Config) × (mid : State) × Gives old mid name c × Tells mid new (canonical_text c) outcome)

-- `plan CONFIG`: the file gives no plan, and nothing is said; or the lines of the plan are told.
abbrev pub Plans : State → State → List ℕ → Outcome → Type 0
Plans old new name outcome =
    ((stop : ConfigStop) × GivesNoPlan old new name stop × (outcome ≡ config_outcome stop))
    ⊎ ((c : Config) × (text : List ℕ) × (mid : State) × Gives old mid name c × IsPlan c × IsPlanText c text
    × Tells mid new text outcome)
