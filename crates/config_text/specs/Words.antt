-- How the words of a line and its values are held. No public clause cites this module.
use Rattle.std.specs.Prelude.{ℕ, zero, suc, ◌<◌, ◌≤◌, List, [], ◌∷◌, Option, Some, None, length, map, slice_index}
use Rattle.config_text.specs.ConfigText.{words_of}
use Rattle.config_text.specs.Fields.{fields_at, Spelling, spelling_of}
use Rattle.config_text.specs.Fields.Spelling.{Number, Word}
use Rattle.config_text.specs.declared.field.Field.{Field}
use Rattle.config_text.specs.declared.spelling.Spelling.{Spelling as Held}
use Rattle.config_text.specs.declared.spelling.Spelling.TheVariants.{Number as HeldNumber, Word as HeldWord}

-- the words that are left of a line; there is none if the last one was taken
abbrev pub words_in : Option (List ℕ) → List (List ℕ)
words_in None = []
words_in (Some rest) = words_of rest

-- the word that is behind them
abbrev pub last_in : Option (List ℕ) → List (List ℕ)
last_in None = []
last_in (Some word) = word ∷ []

-- so many values from a place on
abbrev pub values_from : ℕ → ℕ → List ℕ → List ℕ
values_from place zero values = []
values_from place (suc n) values = slice_index values place ∷ values_from (suc place) n values

abbrev pub first_values : ℕ → List ℕ → List ℕ
first_values n values = values_from 0 n values

-- the spelling that the code holds
abbrev pub spelling_in : Held → Spelling
spelling_in (HeldNumber least greatest) = Number least greatest
spelling_in (HeldWord words) = Word (map (λ word. word.now) words.now)

-- what a value is that some word spells
abbrev pub Fits : Spelling → ℕ → Type 0
Fits (Number least greatest) n = (least ≤ n) × (n ≤ greatest)
Fits (Word words) n = n < length words

-- one by one
abbrev pub FitFields : List Field → List ℕ → Type 0
FitFields [] [] = Unit {0}
FitFields (f ∷ fs) (n ∷ ns) = Fits (spelling_of f) n × FitFields fs ns
FitFields fs ns = ⊥

-- the values of the line that is due behind so many
abbrev pub row_of : ℕ → List ℕ → List ℕ
row_of due values = first_values (length (fields_at due)) values

-- the rows of the lines from one on
abbrev pub FitLines : ℕ → List (List ℕ) → Type 0
FitLines due [] = Unit {0}
FitLines due (row ∷ rows) = FitFields (fields_at due) row × FitLines (suc due) rows
