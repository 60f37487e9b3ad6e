-- The configuration text: which texts spell a configuration, which are refused, and which is written.
use Rattle.std.specs.Prelude.{◌≡◌, ◌⊎◌, ℕ, suc, ◌+◌, ◌<◌, ◌≤◌, ◌==◌, ◌&&◌, Bool, true, false, not, List, [], ◌∷◌, ◌++◌}
use Rattle.std.specs.Prelude.{length}
use Rattle.std.specs.Prelude.{drop, codes, bytes_eq, nat_le, if◌then◌else◌}
use Rattle.std.specs.Prelude.{filter, slice_index_or, All}
use Rattle.std.specs.List.{slice_split, flat_map}
use Rattle.std.specs.Str.Lines.{lines}
use Rattle.plp_config.specs.declared.config.Config.{Config}
use Rattle.config_text.specs.declared.fault.TextWhy.{TextWhy}
use Rattle.config_text.specs.declared.fault.TextWhy.TheVariants.{NotAscii, WrongKey, WrongCount, EndsEarly, TooLong}
use Rattle.config_text.specs.declared.fault.TextFault.{TextFault}
use Rattle.config_text.specs.declared.fault.TextFault.TheVariants.{Refused, OutOfMemory}
use Rattle.config_text.specs.Fields.{key_at, fields_at, SpellsFields, FailsFirst, words_after}
use Rattle.config_text.specs.Rows.{rows_of}

-- A line is skipped if it is empty or begins with #.
abbrev pub is_skipped : List ℕ → Bool
is_skipped [] = true
is_skipped (c ∷ cs) = c == 35

-- the lines that are not
abbrev pub kept : List (List ℕ) → List (List ℕ)
kept all = filter (λ line. not (is_skipped line)) all

-- the words of a line, parted by single spaces
abbrev pub words_of : List ℕ → List (List ℕ)
words_of line = slice_split (λ b. b == 32) line

abbrev pub IsPrintable : ℕ → Type 0
IsPrintable b = (32 ≤ b) × (b ≤ 126)

-- the lines that stand first, each once
abbrev pub first_lines : ℕ
first_lines = 8

-- how many lines there are at most: the first ones, and 255 PLPs
abbrev pub most_lines : ℕ
most_lines = 263

-- the version that the first of some lines tells by its second word; what is neither is refused
abbrev pub version_of : List (List ℕ) → ℕ
version_of [] = 2
version_of (line ∷ rest) = if bytes_eq (slice_index_or (words_of line) 1 []) (codes "1") then 1 else 2

-- the words that version 1 leaves out at the end of a line: of a PLP the spread, which is 1
abbrev pub left_out : ℕ → ℕ → List (List ℕ)
left_out version due = if (version == 1) && nat_le first_lines due then codes "1" ∷ [] else []

-- all words of a line
abbrev pub full_words : ℕ → ℕ → List ℕ → List (List ℕ)
full_words version due line = words_of line ++ left_out version due

-- The line that is due behind so many is this one, with these values.
pub record ReadsLine (version due : ℕ) (line values : List ℕ) : Type 0 where
  pub printable : All IsPrintable line
  pub words : List (List ℕ)
  pub is : full_words version due line ≡ key_at due ∷ words
  pub fields : SpellsFields (fields_at due) values words
  pub room : due < most_lines

-- The lines are those that are due behind so many, with these values.
abbrev pub ReadsLines : ℕ → ℕ → List (List ℕ) → List (List ℕ) → Type 0
ReadsLines version due [] [] = Unit {0}
ReadsLines version due (line ∷ rest) (row ∷ rows) = ReadsLine version due line row
    × ReadsLines version (suc due) rest rows
ReadsLines version due ls rows = ⊥

-- The line has the key that is due.
abbrev pub HasKey : ℕ → ℕ → List ℕ → Type 0
HasKey version due line = slice_index_or (full_words version due line) 0 [] ≡ key_at due

-- It has as many words as are due, and is not a PLP too many.
abbrev pub HasCount : ℕ → ℕ → List ℕ → Type 0
HasCount version due line = (length (full_words version due line) ≡ length (fields_at due) + 1) × (due < most_lines)

-- the first refusal of the line that is due behind so many: a byte, the key, the number of words, or a word
abbrev pub RefusesLine : ℕ → ℕ → List ℕ → TextWhy → Type 0
RefusesLine version due line why =
    ((All IsPrintable line → ⊥) × (why ≡ NotAscii))
    ⊎ ((All IsPrintable line × (HasKey version due line → ⊥) × (why ≡ WrongKey))
    ⊎ ((All IsPrintable line × HasKey version due line × (HasCount version due line → ⊥) × (why ≡ WrongCount))
    ⊎ (All IsPrintable line × HasKey version due line × HasCount version due line
    × FailsFirst (fields_at due) (drop 1 (full_words version due line)) why)))

-- the version of a text
abbrev pub version_in : List ℕ → ℕ
version_in text = version_of (kept (lines text))

-- how many bytes a text has at most
abbrev pub longest_text : ℕ
longest_text = 65536

-- The text is too long.
pub record RefusesLength (text : List ℕ) (number : ℕ) (why : TextWhy) : Type 0 where
  pub long : longest_text < length text
  pub at : number ≡ 0
  pub reason : why ≡ TooLong

-- All lines are read, but some of the first ones do not come.
pub record RefusesEnd (text : List ℕ) (number : ℕ) (why : TextWhy) : Type 0 where
  pub fits : length text ≤ longest_text
  pub few : length (kept (lines text)) < first_lines
  pub rows : List (List ℕ)
  pub reads : ReadsLines (version_in text) 0 (kept (lines text)) rows
  pub at : number ≡ length (lines text) + 1
  pub reason : why ≡ EndsEarly

-- A line is refused for the place at which it is due, and the lines before it are read.
pub record RefusesAt (text : List ℕ) (number : ℕ) (why : TextWhy) : Type 0 where
  pub fits : length text ≤ longest_text
  pub before : List (List ℕ)
  pub line : List ℕ
  pub after : List (List ℕ)
  pub are : lines text ≡ before ++ line ∷ after
  pub stays : is_skipped line ≡ false
  pub rows : List (List ℕ)
  pub reads : ReadsLines (version_in text) 0 (kept before) rows
  pub refuses : RefusesLine (version_in text) (length (kept before)) line why
  pub at : number ≡ length before + 1

-- the first refusal of a text, and the number of its line, counted from 1 over all lines
abbrev pub Refuses : List ℕ → ℕ → TextWhy → Type 0
Refuses text number why = RefusesLength text number why ⊎ (RefusesEnd text number why ⊎ RefusesAt text number why)

-- The text causes the fault; want of memory has no cause in the text.
abbrev pub CausesFault : List ℕ → TextFault → Type 0
CausesFault text (Refused number why) = Refuses text number why
CausesFault text OutOfMemory = Unit {0}

-- The text spells the configuration.
pub record Spells (text : List ℕ) (c : Config) : Type 0 where
  pub fits : length text ≤ longest_text
  pub reads : ReadsLines (version_in text) 0 (kept (lines text)) (rows_of (version_in text) c)

-- the line that is due behind so many, with these values
abbrev pub canonical_line : ℕ → List ℕ → List ℕ
canonical_line due row = key_at due ++ words_after (fields_at due) row

abbrev pub canonical_lines : ℕ → List (List ℕ) → List (List ℕ)
canonical_lines due [] = []
canonical_lines due (row ∷ rows) = canonical_line due row ∷ canonical_lines (suc due) rows

-- the text of some rows: their lines, each with LF, and no others
abbrev pub text_of : List (List ℕ) → List ℕ
text_of rows = flat_map (λ line. line ++ 10 ∷ []) (canonical_lines 0 rows)

-- the text that is written for a configuration, of version 2
unfoldable pub canonical_text : Config → List ℕ
canonical_text c = text_of (rows_of 2 c)
