-- How the configuration of a named file is read, and why there is none.
use Rattle.std.specs.Prelude.{◌≡◌, ◌⊎◌, ℕ, ◌+◌, ◌<◌, ◌≤◌, min, List, length, IfSome}
use Rattle.ports.specs.Desk.{State, SameCounts, bytes_of}
use Rattle.plp_config.specs.Capacity as capacity
use Rattle.plp_config.specs.Rules as rules
use Rattle.plp_config.specs.Rules.{AllRules}
use Rattle.plp_config.specs.declared.config.Config.{Config}
use Rattle.config_text.specs.ConfigText.{Spells, Refuses, longest_text}
use Rattle.file_run.specs.declared.config_stop.ConfigCause.{ConfigCause}
use Rattle.file_run.specs.declared.config_stop.ConfigCause.TheVariants.{Text, Rule}
use Rattle.file_run.specs.declared.config_stop.ConfigStop.{ConfigStop}
use Rattle.file_run.specs.declared.config_stop.ConfigStop.TheVariants.{Refused, Lacks, ReadFault, OutOfMemory}
use Rattle.file_run.specs.Faults.{ReadsFail}
use Rattle.file_run.specs.Opening.{Opened, Unopened}

-- how many bytes of a text are read at most: one more than a text may have
abbrev pub read_bytes : ℕ
read_bytes = longest_text + 1

-- The file was opened and read to its end, or until so many bytes were given, and nothing else was done.
pub record ReadsText (old new : State) (name : List ℕ) : Type 0 where
  pub given : ℕ
  pub opened : Opened old new name given
  pub few : given ≤ read_bytes
  pub all : IfSome old.held (λ held. given ≡ min (length (bytes_of held.files name)) read_bytes)
  pub said : new.said ≡ old.said
  pub counts : SameCounts old new

-- Reading failed: the file was not opened, or not read so far, and nothing was said.
pub record FailsToRead (old new : State) (name : List ℕ) : Type 0 where
  pub way : Unopened old new ⊎ ((given : ℕ) × Opened old new name given × (given < read_bytes) × (new.said ≡ old.said))
  pub counts : ReadsFail old new

-- The text of the named file spells the configuration, if the desk tells.
abbrev pub FileSpells : State → List ℕ → Config → Type 0
FileSpells old name c = IfSome old.held (λ held. Spells (bytes_of held.files name) c)

-- why a text gives no configuration that satisfies the rules
abbrev pub IsCause : List ℕ → ConfigCause → Type 0
IsCause text (Text line why) = Refuses text line why
IsCause text (Rule rule plp) = (c : Config) × Spells text c × rules.Refuses c (record { rule = rule; plp = plp })

-- The named file gives no configuration that satisfies the rules, by cause.
abbrev pub GivesNone : State → State → List ℕ → ConfigStop → Type 0
GivesNone old new name (Refused cause) = ReadsText old new name
    × IfSome old.held (λ held. IsCause (bytes_of held.files name) cause)
GivesNone old new name ReadFault = FailsToRead old new name
GivesNone old new name OutOfMemory = (new ≡ old) ⊎ ReadsText old new name
GivesNone old new name (Lacks fault) = ⊥

-- The named file gives this configuration, which satisfies the rules.
pub record Gives (old new : State) (name : List ℕ) (c : Config) : Type 0 where
  pub reads : ReadsText old new name
  pub spells : FileSpells old name c
  pub rules : AllRules c

-- A configuration fails a capacity test.
abbrev pub LacksCapacity : Config → ConfigStop → Type 0
LacksCapacity c (Lacks fault) = capacity.Lacks c fault
LacksCapacity c stop = ⊥

-- The named file gives no plan, by cause.
abbrev pub GivesNoPlan : State → State → List ℕ → ConfigStop → Type 0
GivesNoPlan old new name (Lacks fault) = (c : Config) × Gives old new name c × capacity.Lacks c fault
GivesNoPlan old new name stop = GivesNone old new name stop
