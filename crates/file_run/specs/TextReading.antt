-- How the text of a configuration is read. No public clause cites this module.
use Rattle.std.specs.Prelude.{◌≡◌, ◌⊎◌, List, [], ◌++◌, length, ℕ}
use Rattle.file_run.specs.ConfigFile.{read_bytes, IsCause}
use Rattle.file_run.specs.declared.config_stop.ConfigStop.{ConfigStop}
use Rattle.file_run.specs.declared.config_stop.ConfigStop.TheVariants.{Refused, OutOfMemory}

-- A text gives no configuration that satisfies the rules.
abbrev pub RefusesText : List ℕ → ConfigStop → Type 0
RefusesText text (Refused cause) = IsCause text cause
RefusesText text OutOfMemory = Unit {0}
RefusesText text stop = ⊥

-- The text is the front of a file: all of it, or as much as is read.
pub record IsFront (file text : List ℕ) : Type 0 where
  pub left : List ℕ
  pub whole : file ≡ text ++ left
  pub end : (left ≡ []) ⊎ (length text ≡ read_bytes)
