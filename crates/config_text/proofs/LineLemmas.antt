-- Lines that are read, and lines that are refused.
use Rattle.std.proofs.Common.{ℕ, suc, ◌≡◌, ◌⊎◌, All, ◌<◌, ◌+◌, ◌^◌, ◌∷◌, ◌++◌, ◌∙◌, List, [], length, drop, ap, sym}
use Rattle.std.proofs.Common.{subst, arith, refl}
use Rattle.std.proofs.Common.{inl, inr, lit≤, Some, ◌≤◌, ◌&&◌, ◌==◌, Bool, true, false, cond, append-nil}
use Rattle.std.specs.Prelude.{slice_index_or, bytes_eq, codes, if◌then◌else◌}
use Rattle.std.specs.Fmt.{decimal}
use Rattle.std.proofs.lemmas.Bool.{cases_eq}
use Rattle.std.proofs.lemmas.Fmt.{decimal_injective}
use Rattle.std.proofs.lemmas.Fmt.{decimal_digit}
use Rattle.config_text.specs.ConfigText.{words_of, left_out, full_words, version_of, ReadsLine, ReadsLines, RefusesLine}
use Rattle.config_text.specs.ConfigText.{HasKey, HasCount}
use Rattle.config_text.specs.ConfigText.{IsPrintable, most_lines}
use Rattle.config_text.specs.declared.fault.TextWhy.TheVariants.{NotAscii, WrongKey, WrongCount}
use Rattle.config_text.specs.Fields.{SpellsField, SpellsFields, SpellsValue, FailsFirst, Spelling, spelling_of}
use Rattle.config_text.specs.Fields.{fields_at, key_at}
use Rattle.config_text.specs.Fields.Spelling.{Number, Word}
use Rattle.config_text.specs.declared.field.Field.{Field}
use Rattle.config_text.specs.declared.field.Field.TheVariants.{Version, Number8, Number16, Number32, Number64}
use Rattle.config_text.specs.declared.field.Field.TheVariants.{Bandwidth, PlpType}
use Rattle.config_text.specs.declared.field.Field.TheVariants.{CodeRate, Constellation, BlockSize, Bit, Deletion}
use Rattle.config_text.specs.declared.fault.TextWhy.{TextWhy}

-- numbers stay below 2^64
abbrev Narrow : Spelling → Type 0
Narrow (Number least greatest) = greatest < 2 ^ 64
Narrow (Word words) = Unit {0}

narrow : (f : Field) → Narrow (spelling_of f)
narrow Version = lit≤ tt
narrow Number8 = lit≤ tt
narrow Number16 = lit≤ tt
narrow Number32 = lit≤ tt
narrow Number64 = lit≤ tt
narrow Bandwidth = tt
narrow PlpType = tt
narrow CodeRate = tt
narrow Constellation = tt
narrow BlockSize = tt
narrow Bit = tt
narrow Deletion = tt

-- a word spells one value
value_once : (s : Spelling) (m n : ℕ) (word : List ℕ) → Narrow s → SpellsValue s m word → SpellsValue s n word → m ≡ n
value_once (Number least greatest) m n word small a b =
    decimal_injective m n (omega (arith, a)) (omega (arith, b)) (sym a.0 ∙ b.0)
value_once (Word words) m n word small a b = let same : Some m ≡ Some n = sym a ∙ b in cc

field_once : (f : Field) (m n : ℕ) (word : List ℕ) → SpellsField f m word → SpellsField f n word → m ≡ n
field_once f m n word a b = value_once (spelling_of f) m n word (narrow f) a b

fields_once : (fs : List Field) (ms ns : List ℕ) (ws : List (List ℕ)) → SpellsFields fs ms ws → SpellsFields fs ns ws
    → ms ≡ ns
fields_once [] [] [] [] a b = refl
fields_once [] [] (n ∷ ns) [] a b = absurd b
fields_once [] (m ∷ ms) ns [] a b = absurd a
fields_once [] [] ns (w ∷ ws) a b = absurd a
fields_once [] (m ∷ ms) ns (w ∷ ws) a b = absurd a
fields_once (f ∷ fs) [] ns ws a b = absurd a
fields_once (f ∷ fs) (m ∷ ms) ns [] a b = absurd a
fields_once (f ∷ fs) (m ∷ ms) [] (w ∷ ws) a b = absurd b
fields_once (f ∷ fs) (m ∷ ms) (n ∷ ns) (w ∷ ws) a b =
    let first : m ≡ n = field_once f m n w a.0 b.0 in
    let rest : ms ≡ ns = fields_once fs ms ns ws a.1 b.1 in
    cc

fields_count : (fs : List Field) (ns : List ℕ) (ws : List (List ℕ)) → SpellsFields fs ns ws → length ws ≡ length fs
fields_count [] [] [] a = refl
fields_count [] [] (w ∷ ws) a = absurd a
fields_count [] (n ∷ ns) ws a = absurd a
fields_count (f ∷ fs) [] ws a = absurd a
fields_count (f ∷ fs) (n ∷ ns) [] a = absurd a
fields_count (f ∷ fs) (n ∷ ns) (w ∷ ws) a = ap (λ (k : ℕ). suc k) (fields_count fs ns ws a.1)

-- words that spell values do not fail
fields_not : (fs : List Field) (ns : List ℕ) (ws : List (List ℕ)) (why : TextWhy) → SpellsFields fs ns ws
    → FailsFirst fs ws why
    → ⊥
fields_not [] ns ws why a b = absurd b
fields_not (f ∷ fs) ns [] why a b = absurd b
fields_not (f ∷ fs) [] (w ∷ ws) why a b = absurd a
fields_not (f ∷ fs) (n ∷ ns) (w ∷ ws) why a (inl fails) = fails.0 n a.0
fields_not (f ∷ fs) (n ∷ ns) (w ∷ ws) why a (inr later) = fields_not fs ns ws why a.1 later.2

fails_once : (fs : List Field) (ws : List (List ℕ)) (why other : TextWhy) → FailsFirst fs ws why
    → FailsFirst fs ws other
    → why ≡ other
fails_once [] ws why other a b = absurd a
fails_once (f ∷ fs) [] why other a b = absurd a
fails_once (f ∷ fs) (w ∷ ws) why other (inl a) (inl b) = a.1 ∙ sym b.1
fails_once (f ∷ fs) (w ∷ ws) why other (inl a) (inr b) = absurd (a.0 b.0 b.1)
fails_once (f ∷ fs) (w ∷ ws) why other (inr a) (inl b) = absurd (b.0 a.0 a.1)
fails_once (f ∷ fs) (w ∷ ws) why other (inr a) (inr b) = fails_once fs ws why other a.2 b.2

-- a line is read as one row
pub line_once : (v due : ℕ) (line a b : List ℕ) → ReadsLine v due line a → ReadsLine v due line b → a ≡ b
line_once v due line a b one two =
    let same : two.words ≡ one.words = ap (λ (l : List (List ℕ)). drop 1 l) (sym two.is ∙ one.is) in
    fields_once (fields_at due) a b one.words one.fields
    (subst (λ (l : List (List ℕ)). SpellsFields (fields_at due) b l) same two.fields)

-- a line that is read has its key and its count
has_key : (v due : ℕ) (line row : List ℕ) → ReadsLine v due line row → HasKey v due line
has_key v due line row reads = ap (λ (l : List (List ℕ)). slice_index_or l 0 []) reads.is

has_count : (v due : ℕ) (line row : List ℕ) → ReadsLine v due line row → HasCount v due line
has_count v due line row reads = (
  omega (arith, ap length reads.is, fields_count (fields_at due) row reads.words reads.fields),
  reads.room,
)

-- and is not refused
pub line_not : (v due : ℕ) (line row : List ℕ) (why : TextWhy) → ReadsLine v due line row → RefusesLine v due line why
    → ⊥
line_not v due line row why reads (inl a) = a.0 reads.printable
line_not v due line row why reads (inr (inl a)) = a.1 (has_key v due line row reads)
line_not v due line row why reads (inr (inr (inl a))) = a.2 (has_count v due line row reads)
line_not v due line row why reads (inr (inr (inr a))) =
    let words : drop 1 (full_words v due line) ≡ reads.words = ap (λ (l : List (List ℕ)). drop 1 l) reads.is in
    fields_not (fields_at due) row reads.words why reads.fields
    (subst (λ (l : List (List ℕ)). FailsFirst (fields_at due) l why) words a.3)

-- a line has one refusal
pub line_refused_once : (v due : ℕ) (line : List ℕ) (why other : TextWhy) → RefusesLine v due line why
    → RefusesLine v due line other
    → why ≡ other
line_refused_once v due line why other (inl a) (inl b) = a.1 ∙ sym b.1
line_refused_once v due line why other (inl a) (inr (inl b)) = absurd (a.0 b.0)
line_refused_once v due line why other (inl a) (inr (inr (inl b))) = absurd (a.0 b.0)
line_refused_once v due line why other (inl a) (inr (inr (inr b))) = absurd (a.0 b.0)
line_refused_once v due line why other (inr (inl a)) (inl b) = absurd (b.0 a.0)
line_refused_once v due line why other (inr (inl a)) (inr (inl b)) = a.2 ∙ sym b.2
line_refused_once v due line why other (inr (inl a)) (inr (inr (inl b))) = absurd (a.1 b.1)
line_refused_once v due line why other (inr (inl a)) (inr (inr (inr b))) = absurd (a.1 b.1)
line_refused_once v due line why other (inr (inr (inl a))) (inl b) = absurd (b.0 a.0)
line_refused_once v due line why other (inr (inr (inl a))) (inr (inl b)) = absurd (b.1 a.1)
line_refused_once v due line why other (inr (inr (inl a))) (inr (inr (inl b))) = a.3 ∙ sym b.3
line_refused_once v due line why other (inr (inr (inl a))) (inr (inr (inr b))) = absurd (a.2 b.2)
line_refused_once v due line why other (inr (inr (inr a))) (inl b) = absurd (b.0 a.0)
line_refused_once v due line why other (inr (inr (inr a))) (inr (inl b)) = absurd (b.1 a.1)
line_refused_once v due line why other (inr (inr (inr a))) (inr (inr (inl b))) = absurd (b.2 a.2)
line_refused_once v due line why other (inr (inr (inr a))) (inr (inr (inr b))) =
    fails_once (fields_at due) (drop 1 (full_words v due line)) why other a.3 b.3

-- ---- lines, one after another

pub lines_once : (v due : ℕ) (ls a b : List (List ℕ)) → ReadsLines v due ls a → ReadsLines v due ls b → a ≡ b
lines_once v due [] [] [] one two = refl
lines_once v due [] [] (r ∷ rs) one two = absurd two
lines_once v due [] (r ∷ rs) b one two = absurd one
lines_once v due (l ∷ ls) [] b one two = absurd one
lines_once v due (l ∷ ls) (r ∷ rs) [] one two = absurd two
lines_once v due (l ∷ ls) (r ∷ rs) (s ∷ ss) one two =
    let first : r ≡ s = line_once v due l r s one.0 two.0 in
    let rest : rs ≡ ss = lines_once v (suc due) ls rs ss one.1 two.1 in
    cc

pub lines_count : (v due : ℕ) (ls rows : List (List ℕ)) → ReadsLines v due ls rows → length ls ≡ length rows
lines_count v due [] [] reads = refl
lines_count v due [] (r ∷ rs) reads = absurd reads
lines_count v due (l ∷ ls) [] reads = absurd reads
lines_count v due (l ∷ ls) (r ∷ rs) reads = ap (λ (k : ℕ). suc k) (lines_count v (suc due) ls rs reads.1)

-- one more line is read behind the others
pub lines_more : (v due : ℕ) (ls rows : List (List ℕ)) (line row : List ℕ) → ReadsLines v due ls rows
    → ReadsLine v (due + length ls) line row
    → ReadsLines v due (ls ++ line ∷ []) (rows ++ row ∷ [])
lines_more v due [] [] line row reads last =
    (let e : due + 0 ≡ due = omega arith in subst (λ (d : ℕ). ReadsLine v d line row) e last, tt)
lines_more v due [] (r ∷ rs) line row reads last = absurd reads
lines_more v due (l ∷ ls) [] line row reads last = absurd reads
lines_more v due (l ∷ ls) (r ∷ rs) line row reads last =
    let e : due + suc (length ls) ≡ suc due + length ls = omega arith in
    (reads.0, lines_more v (suc due) ls rs line row reads.1 (subst (λ (d : ℕ). ReadsLine v d line row) e last))

-- a line among lines that are read is read
pub lines_at : (v due : ℕ) (before after rows : List (List ℕ)) (line : List ℕ)
    → ReadsLines v due (before ++ line ∷ after) rows
    → (row : List ℕ) × ReadsLine v (due + length before) line row
lines_at v due [] after [] line reads = absurd reads
lines_at v due [] after (r ∷ rs) line reads =
    (r, let e : due ≡ due + 0 = omega arith in subst (λ (d : ℕ). ReadsLine v d line r) e reads.0)
lines_at v due (l ∷ ls) after [] line reads = absurd reads
lines_at v due (l ∷ ls) after (r ∷ rs) line reads =
    let later : (row : List ℕ) × ReadsLine v (suc due + length ls) line row = lines_at v (suc due) ls
    after rs line reads.1 in
    let e : suc due + length ls ≡ due + suc (length ls) = omega arith in
    (later.0, subst (λ (d : ℕ). ReadsLine v d line later.0) e later.1)

-- ---- the version

-- the first line leaves nothing out
left_out-first : (version : ℕ) → left_out version 0 ≡ []
left_out-first version = none (version == 1)
  where
    none : (b : Bool) → cond {A = List (List ℕ)} (b && false) (codes "1" ∷ []) [] ≡ []
    none true = refl
    none false = refl

first_words : (version : ℕ) (line : List ℕ) → full_words version 0 line ≡ words_of line
first_words version line = ap (λ (l : List (List ℕ)). words_of line ++ l) (left_out-first version)
    ∙ append-nil (words_of line)

-- so it is read alike in every version
pub reads_first : (version other : ℕ) (line row : List ℕ) → ReadsLine version 0 line row → ReadsLine other 0 line row
reads_first version other line row reads = record {
  printable = reads.printable;
  words = reads.words;
  is = first_words other line ∙ sym (first_words version line) ∙ reads.is;
  fields = reads.fields;
  room = reads.room;
}

pub refuses_first : (version other : ℕ) (line : List ℕ) (why : TextWhy) → RefusesLine version 0 line why
    → RefusesLine other 0 line why
refuses_first version other line why refuses =
    let same : full_words version 0 line ≡ full_words other 0 line = first_words version line
    ∙ sym (first_words other line) in
    subst (λ (l : List (List ℕ)). ((All IsPrintable line → ⊥) × (why ≡ NotAscii))
    ⊎ ((All IsPrintable line × (slice_index_or l 0 [] ≡ key_at 0 → ⊥) × (why ≡ WrongKey))
    ⊎ ((All IsPrintable line × (slice_index_or l 0 [] ≡ key_at 0)
    × (((length l ≡ length (fields_at 0) + 1) × (0 < most_lines)) → ⊥) × (why ≡ WrongCount))
    ⊎ (All IsPrintable line × (slice_index_or l 0 [] ≡ key_at 0) × ((length l ≡ length (fields_at 0) + 1)
    × (0 < most_lines))
    × FailsFirst (fields_at 0) (drop 1 l) why)))) same refuses

-- a number of the version, and the version that its word tells
told : (n : ℕ) (word : List ℕ) → word ≡ decimal n → 1 ≤ n → n ≤ 2 → (if bytes_eq word (codes "1") then 1 else 2) ≡ n
told n word is least most = elim (cases_eq n 1) [
  | inl one ↦ ap (λ (w : List ℕ). if bytes_eq w (codes "1") then 1 else 2) (is ∙ ap decimal one
      ∙ decimal_digit 1 (omega arith))
      ∙ sym one
  | inr more ↦
      let two : n ≡ 2 = omega (arith, more, least, most) in
      ap (λ (w : List ℕ). if bytes_eq w (codes "1") then 1 else 2) (is ∙ ap decimal two ∙ decimal_digit 2 (omega arith))
      ∙ sym two
]

one_value : (row : List ℕ) (words : List (List ℕ)) → SpellsFields (Version ∷ []) row words
    → row ≡ (if bytes_eq (slice_index_or words 0 []) (codes "1") then 1 else 2) ∷ []
one_value [] words fields = absurd fields
one_value (n ∷ []) (w ∷ []) fields = ap (λ (k : ℕ). k ∷ []) (sym (told n w fields.0.0 fields.0.1 fields.0.2))
one_value (n ∷ []) [] fields = absurd fields
one_value (n ∷ []) (w ∷ x ∷ ws) fields = absurd fields.1
one_value (n ∷ m ∷ ns) [] fields = absurd fields
one_value (n ∷ m ∷ ns) (w ∷ ws) fields = absurd fields.1

-- the first line tells the version
pub version_read : (version : ℕ) (line row : List ℕ) (rest : List (List ℕ)) → ReadsLine version 0 line row
    → row ≡ version_of (line ∷ rest) ∷ []
version_read version line row rest reads =
    let words : words_of line ≡ key_at 0 ∷ reads.words = sym (first_words version line) ∙ reads.is in
    one_value row reads.words reads.fields
    ∙ ap (λ (l : List (List ℕ)). (if bytes_eq (slice_index_or l 1 []) (codes "1") then 1 else 2) ∷ []) (sym words)

pub first_row : (ls rows : List (List ℕ)) → ReadsLines (version_of ls) 0 ls rows → 0 < length rows
    → slice_index_or rows 0 [] ≡ version_of ls ∷ []
first_row [] [] reads some = absurd (omega arith)
first_row [] (row ∷ rows) reads some = absurd reads
first_row (line ∷ ls) [] reads some = absurd (omega arith)
first_row (line ∷ ls) (row ∷ rows) reads some = version_read (version_of (line ∷ ls)) line row ls reads.0
