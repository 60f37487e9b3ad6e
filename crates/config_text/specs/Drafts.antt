-- How a configuration is filled in, a line at a time. No public clause cites this module.
use Rattle.std.specs.Prelude.{◌≡◌, ◌≢◌, ℕ, suc, ◌+◌, ◌-◌, ◌≤◌, List, [], ◌∷◌, ◌++◌, length, take}
use Rattle.plp_config.specs.declared.config.Config.{Config}
use Rattle.std.specs.Str.Lines.{lines}
use Rattle.config_text.specs.declared.fault.TextFault.{TextFault}
use Rattle.config_text.specs.declared.fault.TextFault.TheVariants.{Refused, OutOfMemory}
use Rattle.config_text.specs.ConfigText.{RefusesLine, first_lines, kept, version_in, ReadsLine, ReadsLines}
use Rattle.config_text.specs.Rows.{rows_of}

-- One more line has its values, and those before it have kept theirs.
pub record Puts (version due : ℕ) (row : List ℕ) (old new : Config) : Type 0 where
  pub rows : take (suc due) (rows_of version new) ≡ take due (rows_of version old) ++ row ∷ []
  pub plps : length new.plps ≡ suc due - first_lines

-- The line was due in a version of the text, and has been put into its place; and the version is told, by the first
-- line or before.
pub record Takes (version due : ℕ) (line : List ℕ) (old new : Config) (told : ℕ) : Type 0 where
  pub row : List ℕ
  pub reads : ReadsLine version due line row
  pub puts : (v : ℕ) → (due ≡ 0 → row ≡ v ∷ []) → Puts v due row old new
  pub first : due ≡ 0 → row ≡ told ∷ []
  pub later : due ≢ 0 → told ≡ version

-- So many lines of the text are done, and so many of them were due; the others are left.
pub record Stands (text : List ℕ) (left : List (List ℕ)) (number due version : ℕ) (config : Config) : Type 0 where
  pub before : List (List ℕ)
  pub are : lines text ≡ before ++ left
  pub counted : number ≡ length before
  pub kept_count : due ≡ length (kept before)
  pub reads : ReadsLines (version_in text) 0 (kept before) (take due (rows_of (version_in text) config))
  pub told : due ≢ 0 → version ≡ version_in text
  pub plps : length config.plps ≡ due - first_lines
  pub small : number + length left ≤ 65537
  pub order : due ≤ number

-- The fault tells the number of the line, and why it is refused if it is due; or memory is wanting.
abbrev pub RefusesDue : ℕ → ℕ → List ℕ → ℕ → TextFault → Type 0
RefusesDue version due line number (Refused told why) = (told ≡ number) × RefusesLine version due line why
RefusesDue version due line number OutOfMemory = Unit {0}
