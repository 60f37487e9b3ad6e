-- Laws of configurations in files.
use Rattle.std.specs.Prelude.{◌≡◌, ℕ, List, Result, Ok, Err}
use Rattle.plp_config.specs.Capacity as capacity
use Rattle.plp_config.specs.Capacity.{IsPlan}
use Rattle.plp_config.specs.Rules.{AllRules}
use Rattle.plp_config.specs.declared.config.Config.{Config}
use Rattle.config_text.specs.ConfigText.{Spells}
use Rattle.file_run.specs.ConfigFile.{IsCause}
use Rattle.file_run.specs.declared.config_stop.ConfigStop.{ConfigStop}
use Rattle.file_run.specs.declared.config_stop.ConfigStop.TheVariants.{Refused, Lacks}

-- What a text gives, if nothing outside fails: the configuration that it spells, or why it has none that satisfies the
-- rules.
abbrev pub GivesConfig : List ℕ → Result Config ConfigStop → Type 0
GivesConfig text (Ok c) = Spells text c × AllRules c
GivesConfig text (Err (Refused cause)) = IsCause text cause
GivesConfig text (Err stop) = ⊥

-- The same of a plan, for which the capacity tests hold too.
abbrev pub GivesPlan : List ℕ → Result Config ConfigStop → Type 0
GivesPlan text (Ok c) = Spells text c × IsPlan c
GivesPlan text (Err (Refused cause)) = IsCause text cause
GivesPlan text (Err (Lacks fault)) = (c : Config) × Spells text c × AllRules c × capacity.Lacks c fault
GivesPlan text (Err stop) = ⊥

-- A text gives one thing.
abbrev pub OneConfig : Type 0
OneConfig = (text : List ℕ) (result other : Result Config ConfigStop) → GivesConfig text result → GivesConfig text other
    → result ≡ other

abbrev pub OnePlan : Type 0
OnePlan = (text : List ℕ) (result other : Result Config ConfigStop) → GivesPlan text result → GivesPlan text other
    → result ≡ other

-- Each text gives something.
abbrev pub ConfigEnds : Type 0
ConfigEnds = (text : List ℕ) → (result : Result Config ConfigStop) × GivesConfig text result

abbrev pub PlanEnds : Type 0
PlanEnds = (text : List ℕ) → (result : Result Config ConfigStop) × GivesPlan text result
