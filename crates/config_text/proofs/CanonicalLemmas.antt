-- The text that is written spells its configuration.
use Rattle.std.proofs.Common.{drop, ℕ, zero, suc, ◌≡◌, ◌<◌, ◌≤◌, ◌+◌, ◌-◌, ◌*◌, ◌^◌, ◌%◌, ◌==◌, ◌∷◌, ◌++◌, ◌∙◌, List}
use Rattle.std.proofs.Common.{[], Bool, true}
use Rattle.std.proofs.Common.{false, length, take, get_or, ap, sym, subst, arith, refl, lit≤, All, Some, None, map}
use Rattle.std.proofs.Common.{eq-eqb}
use Rattle.std.proofs.Common.{ne_eqb, append_assoc, append-nil, length-append}
use Rattle.std.specs.Prelude.{slice_index_or}
use Rattle.std.specs.Fmt.{decimal}
use Rattle.std.specs.List.{slice_split, flat_map, list_all, range_with_len}
use Rattle.std.specs.Str.Lines.{lines, strip_carriage_return}
use Rattle.std.proofs.lemmas.Bool.{cond-false}
use Rattle.std.proofs.lemmas.Bool.Decides.{nat_tests}
use Rattle.std.proofs.lemmas.Fmt.{decimal_by_steps, length-decimal-le}
use Rattle.std.proofs.lemmas.List.Elements.{All-nil, All-cons, All-append}
use Rattle.std.proofs.lemmas.List.{get_or-map}
use Rattle.std.proofs.lemmas.List.FromFn.{get_or-map-range_with_len}
use Rattle.std.proofs.lemmas.List.Splits.{slice_split_none, slice_split_at}
use Rattle.std.proofs.lemmas.List.Sums.{AllPass-from_list_all}
use Rattle.plp_config.specs.declared.config.Config.{Config}
use Rattle.config_text.specs.ConfigText.{is_skipped, kept, words_of, version_of, version_in, IsPrintable}
use Rattle.config_text.specs.ConfigText.{canonical_line, canonical_lines, canonical_text}
use Rattle.config_text.specs.ConfigText.{ReadsLine, ReadsLines, Spells}
use Rattle.config_text.specs.Fields.{bands, plp_types, rates, modulations, sizes, bits, deletions, Spelling}
use Rattle.config_text.specs.Fields.{spelling_of}
use Rattle.config_text.specs.Fields.{place_from}
use Rattle.config_text.specs.Fields.{SpellsValue, SpellsFields, key_at, fields_at, word_of, words_after}
use Rattle.config_text.specs.Rows.{rows_of}
use Rattle.config_text.specs.Fields.Spelling.{Number, Word}
use Rattle.config_text.specs.Words.{Fits, FitFields, FitLines}
use Rattle.config_text.specs.declared.field.Field.{Field}
use Rattle.config_text.specs.declared.field.Field.TheVariants.{Version, Number8, Number16, Number32, Number64}
use Rattle.config_text.specs.declared.field.Field.TheVariants.{Bandwidth, PlpType}
use Rattle.config_text.specs.declared.field.Field.TheVariants.{CodeRate, Constellation, BlockSize, Bit, Deletion}
use Rattle.config_text.proofs.DraftLemmas.{length-rows_of}
use Rattle.config_text.proofs.LineLemmas.{version_read}
use Rattle.config_text.proofs.PartLemmas.{lines_first}
use Rattle.config_text.proofs.TextLemmas.{kept-cons}

-- printable, and no space
abbrev IsGraphic : ℕ → Type 0
IsGraphic b = (33 ≤ b) × (b ≤ 126)

abbrev is_graphic : ℕ → Bool
is_graphic b = (33 - b) + (b - 126) == 0

graphic_if : (b : ℕ) → is_graphic b ≡ true → IsGraphic b
graphic_if b e = let none : (33 - b) + (b - 126) ≡ 0 = grind (arith, nat_tests) in (omega arith, omega arith)

all_graphic : (w : List ℕ) → list_all is_graphic w ≡ true → All IsGraphic w
all_graphic w e = λ k d inside. graphic_if (slice_index_or w k d) (AllPass-from_list_all is_graphic w e k d inside)

graphic_prints : (w : List ℕ) → All IsGraphic w → All IsPrintable w
graphic_prints w all = λ k d inside. (omega (arith, (all k d inside).0), (all k d inside).1)

abbrev is_short : List ℕ → Bool
is_short w = length w - 10 == 0

short_if : (w : List ℕ) → is_short w ≡ true → length w ≤ 10
short_if w e = let none : length w - 10 ≡ 0 = grind (arith, nat_tests) in omega arith

-- a word that spells a value, with no space and few bytes
record GoodWord (s : Spelling) (most n : ℕ) (w : List ℕ) : Type 0 where
  spells : SpellsValue s n w
  graphic : All IsGraphic w
  short : length w ≤ most

digit_graphic : (n : ℕ) → n < 10 → All IsGraphic ((48 + n) ∷ [])
digit_graphic n small = All-cons IsGraphic (48 + n) [] (omega arith, omega arith) (All-nil IsGraphic)

decimal_graphic : (n : ℕ) → n < 2 ^ 64 → All IsGraphic (decimal n)
decimal_graphic n fits =
    decimal_by_steps (λ m ds. All IsGraphic ds) digit_graphic
    (λ m ds large all. All-append IsGraphic ds ((48 + m % 10) ∷ []) all (digit_graphic (m % 10) (omega arith)))
    n
    fits

number_good : (least greatest n : ℕ) → greatest < 10 ^ 10 → Fits (Number least greatest) n
    → GoodWord (Number least greatest) 10 n (decimal n)
number_good least greatest n narrow fits =
    let small : n < 2 ^ 64 = omega (arith, fits) in
    record {
      spells = (refl, fits.0, fits.1);
      graphic = decimal_graphic n small;
      short = length-decimal-le 10 n (omega arith) (omega (arith, fits)) small;
    }

wide_good : (n : ℕ) → n ≤ 2 ^ 64 - 1 → GoodWord (Number 0 (2 ^ 64 - 1)) 20 n (decimal n)
wide_good n fits =
    let small : n < 2 ^ 64 = omega (arith, fits) in
    record {
      spells = (refl, omega arith, fits);
      graphic = decimal_graphic n small;
      short = length-decimal-le 20 n (omega arith) (omega arith) small;
    }

-- words with no space and few bytes, each found at its place
words_good : (ws : List (List ℕ)) → map (λ w. place_from 0 w ws) ws ≡ map (λ n. Some n) (range_with_len 0 (length ws))
    → list_all (list_all is_graphic) ws ≡ true → list_all is_short ws ≡ true
    → (n : ℕ) → n < length ws → GoodWord (Word ws) 10 n (get_or ws n [])
words_good ws found graphic short n inside = record {
  spells = sym (get_or-map (λ w. place_from 0 w ws) ws n [] None inside) ∙ ap (λ places. get_or places n None) found
      ∙ get_or-map-range_with_len (λ n. Some n) 0 (length ws) n n None inside (omega arith);
  graphic = all_graphic (get_or ws n []) (AllPass-from_list_all (list_all is_graphic) ws graphic n [] inside);
  short = short_if (get_or ws n []) (AllPass-from_list_all is_short ws short n [] inside);
}

-- bytes of the word of a field at most
abbrev most_len : Field → ℕ
most_len Number64 = 20
most_len f = 10

word_good : (f : Field) (n : ℕ) → Fits (spelling_of f) n → GoodWord (spelling_of f) (most_len f) n
    (word_of (spelling_of f) n)
word_good Version n fits = number_good 1 2 n (lit≤ tt) fits
word_good Number8 n fits = number_good 0 (2 ^ 8 - 1) n (lit≤ tt) fits
word_good Number16 n fits = number_good 0 (2 ^ 16 - 1) n (lit≤ tt) fits
word_good Number32 n fits = number_good 0 (2 ^ 32 - 1) n (lit≤ tt) fits
word_good Number64 n fits = wide_good n fits.1
word_good Bandwidth n fits = words_good bands refl refl refl n fits
word_good PlpType n fits = words_good plp_types refl refl refl n fits
word_good CodeRate n fits = words_good rates refl refl refl n fits
word_good Constellation n fits = words_good modulations refl refl refl n fits
word_good BlockSize n fits = words_good sizes refl refl refl n fits
word_good Bit n fits = words_good bits refl refl refl n fits
word_good Deletion n fits = words_good deletions refl refl refl n fits

-- ---- a line

abbrev words_list : List Field → List ℕ → List (List ℕ)
words_list [] ns = []
words_list (f ∷ fs) [] = []
words_list (f ∷ fs) (n ∷ ns) = word_of (spelling_of f) n ∷ words_list fs ns

no_space : (w : List ℕ) → All IsGraphic w → All (λ b. (b == 32) ≡ false) w
no_space w all = λ k d inside. ne_eqb (slice_index_or w k d) 32 (λ e. let low : 33 ≤ slice_index_or w
    k d = (all k d inside).0 in
    absurd (omega arith))

split_words : (w : List ℕ) (fs : List Field) (ns : List ℕ) → All IsGraphic w → FitFields fs ns
    → slice_split (λ b. b == 32) (w ++ words_after fs ns) ≡ w ∷ words_list fs ns
split_words w [] [] all fits = ap (λ (l : List ℕ). slice_split (λ b. b == 32) l) (append-nil w)
    ∙ slice_split_none (λ b. b == 32) w (no_space w all)
split_words w [] (n ∷ ns) all fits = absurd fits
split_words w (f ∷ fs) [] all fits = absurd fits
split_words w (f ∷ fs) (n ∷ ns) all fits =
    slice_split_at (λ b. b == 32) w 32 (word_of (spelling_of f) n ++ words_after fs ns) (no_space w all)
    (eq-eqb 32 32 refl)
    ∙ ap (λ (l : List (List ℕ)). w ∷ l) (split_words (word_of (spelling_of f) n) fs ns (word_good f n fits.0).graphic
    fits.1)

spells_words : (fs : List Field) (ns : List ℕ) → FitFields fs ns → SpellsFields fs ns (words_list fs ns)
spells_words [] [] fits = tt
spells_words [] (n ∷ ns) fits = absurd fits
spells_words (f ∷ fs) [] fits = absurd fits
spells_words (f ∷ fs) (n ∷ ns) fits = ((word_good f n fits.0).spells, spells_words fs ns fits.1)

prints_words : (fs : List Field) (ns : List ℕ) → FitFields fs ns → All IsPrintable (words_after fs ns)
prints_words [] ns fits = All-nil IsPrintable
prints_words (f ∷ fs) [] fits = absurd fits
prints_words (f ∷ fs) (n ∷ ns) fits =
    All-cons IsPrintable 32 (word_of (spelling_of f) n ++ words_after fs ns) (lit≤ tt, lit≤ tt)
    (All-append IsPrintable (word_of (spelling_of f) n) (words_after fs ns)
    (graphic_prints (word_of (spelling_of f) n) (word_good f n fits.0).graphic) (prints_words fs ns fits.1))

-- and of all, each with its space
abbrev room_of : List Field → ℕ
room_of [] = 0
room_of (f ∷ fs) = most_len f + 1 + room_of fs

length-words : (fs : List Field) (ns : List ℕ) → FitFields fs ns → length (words_after fs ns) ≤ room_of fs
length-words [] ns fits = omega arith
length-words (f ∷ fs) [] fits = absurd fits
length-words (f ∷ fs) (n ∷ ns) fits =
    omega (
      arith,
      length-append (word_of (spelling_of f) n) (words_after fs ns),
      (word_good f n fits.0).short,
      length-words fs ns fits.1,
    )

-- the line that is due behind so many: its key has no space, few bytes and no # in front, and its words few bytes
record GoodLine (due : ℕ) : Type 0 where
  graphic : All IsGraphic (key_at due)
  short : length (key_at due) ≤ 10
  stays : (rest : List ℕ) → is_skipped (key_at due ++ rest) ≡ false
  count : room_of (fields_at due) ≤ 132

line_from : (due : ℕ) → list_all is_graphic (key_at due) ≡ true → length (key_at due) ≤ 10
    → ((rest : List ℕ) → is_skipped (key_at due ++ rest) ≡ false)
    → room_of (fields_at due) ≤ 132 → GoodLine due
line_from due graphic short stays count = record {
  graphic = all_graphic (key_at due) graphic;
  short = short;
  stays = stays;
  count = count;
}

-- every line is
line_good : (due : ℕ) → GoodLine due
line_good zero = line_from _ refl (lit≤ tt) (λ rest. refl) (lit≤ tt)
line_good (suc zero) = line_from _ refl (lit≤ tt) (λ rest. refl) (lit≤ tt)
line_good (suc (suc zero)) = line_from _ refl (lit≤ tt) (λ rest. refl) (lit≤ tt)
line_good (suc (suc (suc zero))) = line_from _ refl (lit≤ tt) (λ rest. refl) (lit≤ tt)
line_good (suc (suc (suc (suc zero)))) = line_from _ refl (lit≤ tt) (λ rest. refl) (lit≤ tt)
line_good (suc (suc (suc (suc (suc zero))))) = line_from _ refl (lit≤ tt) (λ rest. refl) (lit≤ tt)
line_good (suc (suc (suc (suc (suc (suc zero)))))) = line_from _ refl (lit≤ tt) (λ rest. refl) (lit≤ tt)
line_good (suc (suc (suc (suc (suc (suc (suc zero))))))) = line_from _ refl (lit≤ tt) (λ rest. refl) (lit≤ tt)
line_good (suc (suc (suc (suc (suc (suc (suc (suc due)))))))) = line_from _ refl (lit≤ tt) (λ rest. refl) (lit≤ tt)

reads_line : (due : ℕ) (row : List ℕ) → FitFields (fields_at due) row → due < 263
    → ReadsLine 2 due (canonical_line due row) row
reads_line due row fits room = record {
  printable = All-append IsPrintable (key_at due) (words_after (fields_at due) row)
      (graphic_prints (key_at due) (line_good due).graphic) (prints_words (fields_at due) row fits);
  words = words_list (fields_at due) row;
  is = append-nil (words_of (canonical_line due row))
      ∙ split_words (key_at due) (fields_at due) row (line_good due).graphic fits;
  fields = spells_words (fields_at due) row fits;
  room = room;
}

length-line : (due : ℕ) (row : List ℕ) → FitFields (fields_at due) row → length (canonical_line due row ++ 10 ∷ [])
    ≤ 143
length-line due row fits =
    omega (
      arith,
      length-append (canonical_line due row) (10 ∷ []),
      length-append (key_at due) (words_after (fields_at due) row),
      (line_good due).short,
      length-words (fields_at due) row fits,
      (line_good due).count,
    )

-- ---- the lines

abbrev with_end : List ℕ → List ℕ
with_end line = line ++ 10 ∷ []

reads_all : (due : ℕ) (rows : List (List ℕ)) → FitLines due rows → due + length rows ≤ 263
    → ReadsLines 2 due (canonical_lines due rows) rows
reads_all due [] fits room = tt
reads_all due (row ∷ rows) fits room = (
  reads_line due row fits.0 (omega arith),
  reads_all (suc due)
      rows fits.1 (omega arith),
)

kept_all : (due : ℕ) (rows : List (List ℕ)) → kept (canonical_lines due rows) ≡ canonical_lines due rows
kept_all due [] = refl
kept_all due (row ∷ rows) =
    kept-cons (canonical_line due row) (canonical_lines (suc due) rows)
    ((line_good due).stays (words_after (fields_at due) row))
    ∙ ap (λ (l : List (List ℕ)). canonical_line due row ∷ l) (kept_all (suc due) rows)

no_end : (line : List ℕ) → All IsPrintable line → All (λ b. (b == 10) ≡ false) line
no_end line all =
    λ k d inside. ne_eqb (slice_index_or line k d) 10 (λ e. let low : 32 ≤ slice_index_or line k d =
    (all k d inside).0 in
    absurd (omega arith))

strip_plain : (line : List ℕ) → All IsPrintable line → strip_carriage_return line ≡ line
strip_plain [] all = refl
strip_plain (x ∷ xs) all =
    let low : 32 ≤ get_or (x ∷ xs) (length (x ∷ xs) - 1) 0 = (all (length (x ∷ xs) - 1) 0 (omega arith)).0 in
    cond-false (get_or (x ∷ xs) (length (x ∷ xs) - 1) 0 == 13) (take (length (x ∷ xs) - 1) (x ∷ xs)) (x ∷ xs)
    (ne_eqb (get_or (x ∷ xs) (length (x ∷ xs) - 1) 0) 13 (λ e. absurd (omega arith)))

lines_cons : (line rest : List ℕ) → All IsPrintable line → lines (with_end line ++ rest) ≡ line ∷ lines rest
lines_cons line rest all =
    let parts : slice_split (λ b. b == 10) (with_end line ++ rest) ≡ line ∷ slice_split (λ b. b == 10) rest =
    ap (λ (l : List ℕ). slice_split (λ b. b == 10) l) (append_assoc line (10 ∷ []) rest)
    ∙ slice_split_at (λ b. b == 10) line 10 rest (no_end line all) (eq-eqb 10 10 refl) in
    lines_first (with_end line ++ rest) line rest parts ∙ ap (λ (l : List ℕ). l ∷ lines rest) (strip_plain line all)

lines_all : (due : ℕ) (rows : List (List ℕ)) → FitLines due rows → due + length rows ≤ 263
    → lines (flat_map with_end (canonical_lines due rows)) ≡ canonical_lines due rows
lines_all due [] fits room = refl
lines_all due (row ∷ rows) fits room =
    lines_cons (canonical_line due row) (flat_map with_end (canonical_lines (suc due) rows))
    (reads_line due row fits.0 (omega arith)).printable
    ∙ ap (λ (l : List (List ℕ)). canonical_line due row ∷ l) (lines_all (suc due) rows fits.1 (omega arith))

length-all : (due : ℕ) (rows : List (List ℕ)) → FitLines due rows
    → length (flat_map with_end (canonical_lines due rows))
    ≤ 143 * length rows
length-all due [] fits = omega arith
length-all due (row ∷ rows) fits =
    omega (
      arith,
      length-append (with_end (canonical_line due row)) (flat_map with_end (canonical_lines (suc due) rows)),
      length-line due row fits.0,
      length-all (suc due) rows fits.1,
    )

pub canonical_spells : (c : Config) (text : List ℕ) → FitLines 0 (rows_of 2 c) → length c.plps ≤ 255
    → text ≡ canonical_text c
    → Spells text c
unfolding canonical_text
canonical_spells c text fits few is =
    let rows : List (List ℕ) = rows_of 2 c in
    let room : 0 + length (rows_of 2 c) ≤ 263 = omega (arith, length-rows_of 2 c) in
    let all : lines (canonical_text c) ≡ canonical_lines 0 (rows_of 2 c) = lines_all 0 (rows_of 2 c) fits room in
    let stay : kept (lines (canonical_text c)) ≡ canonical_lines 0 (rows_of 2 c) = ap kept all
    ∙ kept_all 0 (rows_of 2 c) in
    let reads : ReadsLines 2 0 (kept (lines (canonical_text c))) (rows_of 2 c) =
    subst (λ (l : List (List ℕ)). ReadsLines 2 0 l (rows_of 2 c)) (sym stay) (reads_all 0 (rows_of 2 c) fits room) in
    let first : 2 ∷ [] ≡ version_of (canonical_lines 0 (rows_of 2 c)) ∷ [] =
    version_read 2 (canonical_line 0 (2 ∷ [])) (2 ∷ []) (canonical_lines 1 (drop 1 (rows_of 2 c)))
    ((reads_all 0 (rows_of 2 c) fits room).0) in
    let told : version_of (canonical_lines 0 (rows_of 2 c)) ≡ 2 =
    sym (ap (λ (l : List ℕ). get_or l 0 0) first) in
    let version : version_in text ≡ 2 = ap (λ (t : List ℕ). version_of (kept (lines t))) is ∙ ap version_of stay
    ∙ told in
    record {
      fits = omega (arith, ap length is, length-all 0 (rows_of 2 c) fits, length-rows_of 2 c);
      reads = subst (λ (v : ℕ). ReadsLines v 0 (kept (lines text)) (rows_of v c)) (sym version)
          (subst (λ (t : List ℕ). ReadsLines 2 0 (kept (lines t)) (rows_of 2 c)) (sym is) reads);
    }

-- one line more fits
pub fit_more : (due : ℕ) (rows : List (List ℕ)) (i : ℕ) → FitLines due (take i rows) → i < length rows
    → FitFields (fields_at (due + i)) (get_or rows i []) → FitLines due (take (i + 1) rows)
fit_more due [] i fits inside more = absurd (omega arith)
fit_more due (row ∷ rows) zero fits inside more =
    (let e : due + 0 ≡ due = omega arith in subst (λ (d : ℕ). FitFields (fields_at d) row) e more, tt)
fit_more due (row ∷ rows) (suc i) fits inside more =
    let next : suc (i + 1) ≡ suc i + 1 = omega arith in
    let e : due + suc i ≡ suc due + i = omega arith in
    let later : FitLines (suc due) (take (i + 1) rows) =
    fit_more (suc due) rows i fits.1 (omega arith) (subst (λ (d : ℕ). FitFields (fields_at d) (get_or rows i []))
    e more) in
    let both : FitLines due (take (suc (i + 1)) (row ∷ rows)) = (fits.0, later) in
    subst (λ (n : ℕ). FitLines due (take n (row ∷ rows))) next both
