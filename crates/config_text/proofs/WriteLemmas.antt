-- Words are written one after another.
use Rattle.std.proofs.Common.{ℕ, zero, suc, ◌≡◌, ◌<◌, ◌≤◌, ◌+◌, ◌-◌, ◌∷◌, ◌++◌, ◌∙◌, List, [], length, drop, get_or, ap}
use Rattle.std.proofs.Common.{sym}
use Rattle.std.proofs.Common.{subst, arith, refl, append_assoc, append-nil, take, map}
use Rattle.std.specs.List.{flat_map}
use Rattle.std.proofs.lemmas.Grind.{flat_map-append}
use Rattle.std.proofs.lemmas.List.{drop_more, take_all, get_or-map, get_or-append_right}
use Rattle.plp_config.specs.Plps.{plp_at, no_plp}
use Rattle.plp_config.specs.declared.config.Config.{Config}
use Rattle.plp_config.specs.declared.plp.Plp.{Plp}
use Rattle.config_text.specs.ConfigText.{canonical_line, canonical_lines, text_of}
use Rattle.config_text.specs.Fields.{words_after, word_of, spelling_of}
use Rattle.config_text.specs.Rows.{first_rows, rows_of, plp_row}
use Rattle.config_text.specs.Words.{values_from, first_values, row_of, Fits, FitFields}
use Rattle.config_text.specs.declared.field.Field.{Field}
use Rattle.config_text.proofs.DraftLemmas.{row_later}

-- the values that are left from a place on
abbrev pub values_left : List Field → ℕ → List ℕ → List ℕ
values_left fields i values = values_from i (length fields - i) values

-- What is written, and the words of the fields that are left, are all.
pub record Writes (fields : List Field) (values : List ℕ) (i : ℕ) (old text : List ℕ) : Type 0 where
  pub fits : FitFields (drop i fields) (values_left fields i values)
  pub all : text ++ words_after (drop i fields) (values_left fields i values)
      ≡ old ++ words_after fields (first_values (length fields) values)

left-cons : (fields : List Field) (i : ℕ) (values : List ℕ) → i < length fields
    → values_left fields i values ≡ get_or values i 0
    ∷ values_left fields (i + 1) values
left-cons fields i values inside =
    let e : length fields - i ≡ suc (length fields - (i + 1)) = omega arith in
    let next : suc i ≡ i + 1 = omega arith in
    ap (λ (n : ℕ). values_from i n values) e
    ∙ ap (λ (k : ℕ). get_or values i 0 ∷ values_from k (length fields - (i + 1)) values)
    next

-- the next field fits its value, and so do those behind it
fits_here : (fields : List Field) (values old text : List ℕ) (i : ℕ) (d : Field) → Writes fields values i old text
    → i < length fields
    → FitFields (get_or fields i d ∷ drop (i + 1) fields) (get_or values i 0 ∷ values_left fields (i + 1) values)
fits_here fields values old text i d writes inside =
    let front : FitFields (get_or fields i d ∷ drop (i + 1) fields) (values_left fields i values) =
    subst (λ (fs : List Field). FitFields fs (values_left fields i values)) (drop_more fields i d inside) writes.fits in
    subst (λ (ns : List ℕ). FitFields (get_or fields i d ∷ drop (i + 1) fields) ns) (left-cons fields i values inside)
    front

pub writes_fits : (fields : List Field) (values old text : List ℕ) (i : ℕ) (d : Field) → Writes fields values i old text
    → i < length fields → Fits (spelling_of (get_or fields i d)) (get_or values i 0)
writes_fits fields values old text i d writes inside = (fits_here fields values old text i d writes inside).0

pub writes_on : (fields : List Field) (values old text : List ℕ) (i : ℕ) (d : Field) → Writes fields values i old text
    → i < length fields
    → Writes fields values (i + 1) old ((text ++ 32 ∷ []) ++ word_of (spelling_of (get_or fields i d))
    (get_or values i 0))
writes_on fields values old text i d writes inside =
    let word : List ℕ = word_of (spelling_of (get_or fields i d)) (get_or values i 0) in
    let later : List ℕ = words_after (drop (i + 1) fields) (values_left fields (i + 1) values) in
    let parts : text ++ words_after (drop i fields) (values_left fields i values) ≡ text ++ 32 ∷ (word ++ later) =
    ap (λ (fs : List Field). text ++ words_after fs (values_left fields i values)) (drop_more fields i d inside)
    ∙ ap (λ (ns : List ℕ). text ++ words_after (get_or fields i d ∷ drop (i + 1) fields) ns)
    (left-cons fields i values inside) in
    record {
      fits = (fits_here fields values old text i d writes inside).1;
      all = append_assoc (text ++ 32 ∷ []) word later ∙ append_assoc text (32 ∷ []) (word ++ later) ∙ sym parts
          ∙ writes.all;
    }

-- ---- the rows of a configuration

row_at : (c : Config) (due : ℕ) → 8 ≤ due → due - 8 < length c.plps → get_or (rows_of 2 c) due []
    ≡ plp_row (plp_at c.plps (due - 8))
row_at c due later inside =
    get_or-append_right (first_rows 2 c) (map plp_row c.plps) 8 due [] refl later
    ∙ get_or-map plp_row c.plps (due - 8) no_plp [] inside

pub plp_row_at : (c : Config) (due : ℕ) (plp : Plp) (values : List ℕ) → 8 ≤ due → due - 8 < length c.plps
    → plp ≡ plp_at c.plps (due - 8) → first_values 12 values ≡ plp_row plp
    → row_of due values ≡ get_or (rows_of 2 c) due []
plp_row_at c due plp values later inside is row =
    row_later due values later ∙ row ∙ ap plp_row is ∙ sym (row_at c due later inside)

-- the lines so far, and the next
lines_take : (due : ℕ) (rows : List (List ℕ)) (i : ℕ) → i < length rows → canonical_lines due (take (i + 1) rows)
    ≡ canonical_lines due (take i rows) ++ canonical_line (due + i) (get_or rows i []) ∷ []
lines_take due [] i inside = absurd (omega arith)
lines_take due (r ∷ rows) zero inside = (let e : due ≡ due + 0 = omega arith in ap (λ (d : ℕ). canonical_line d r ∷ [])
    e)
lines_take due (r ∷ rows) (suc i) inside =
    let next : suc i + 1 ≡ suc (i + 1) = omega arith in
    let e : suc due + i ≡ due + suc i = omega arith in
    ap (λ (k : ℕ). canonical_lines due (take k (r ∷ rows))) next
    ∙ ap (λ (l : List (List ℕ)). canonical_line due r ∷ l) (lines_take (suc due) rows i (omega arith))
    ∙ ap (λ (d : ℕ). canonical_line due r ∷ (canonical_lines (suc due) (take i rows) ++ canonical_line
    d (get_or rows i []) ∷ []))
    e

-- a text of the lines so far, and one line more
pub text_more : (rows : List (List ℕ)) (i : ℕ) (old new row : List ℕ) → i < length rows → old ≡ text_of (take i rows)
    → row ≡ get_or rows i [] → new ≡ old ++ (canonical_line i row ++ 10 ∷ [])
    → new ≡ text_of (take (i + 1) rows)
text_more rows i old new row inside so_far is more =
    let e : 0 + i ≡ i = omega arith in
    let lines : canonical_lines 0 (take (i + 1) rows) ≡ canonical_lines 0 (take i rows) ++ canonical_line i row ∷ [] =
    lines_take 0 rows i inside
    ∙ ap (λ (d : ℕ). canonical_lines 0 (take i rows) ++ canonical_line d (get_or rows i []) ∷ []) e
    ∙ ap (λ (r : List ℕ). canonical_lines 0 (take i rows) ++ canonical_line i r ∷ []) (sym is) in
    more
    ∙ ap (λ (t : List ℕ). t ++ (canonical_line i row ++ 10 ∷ [])) so_far
    ∙ ap (λ (t : List ℕ). text_of (take i rows) ++ t) (sym (append-nil (canonical_line i row ++ 10 ∷ [])))
    ∙ sym (flat_map-append (λ (line : List ℕ). line ++ 10 ∷ []) (canonical_lines 0 (take i rows))
    (canonical_line i row ∷ []))
    ∙ ap (λ (l : List (List ℕ)). flat_map (λ (line : List ℕ). line ++ 10 ∷ []) l) (sym lines)

pub text_whole : (rows : List (List ℕ)) (i : ℕ) (text : List ℕ) → length rows ≤ i → text ≡ text_of (take i rows)
    → text ≡ text_of rows
text_whole rows i text past is = is ∙ ap text_of (take_all i rows past)
