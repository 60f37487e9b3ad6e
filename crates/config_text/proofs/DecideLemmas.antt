-- Each text spells a configuration or is refused.
use Rattle.std.proofs.Common.{ℕ, zero, suc, ◌≡◌, ◌<◌, ◌≤◌, ◌+◌, ◌∷◌, ◌++◌, ◌∙◌, ◌⊎◌, List, [], Bool, true, false}
use Rattle.std.proofs.Common.{length, drop}
use Rattle.std.proofs.Common.{ap, sym, subst, arith, refl, inl, inr, All, Option, Some, None, append_assoc, append-nil}
use Rattle.std.specs.Prelude.{slice_index_or}
use Rattle.std.specs.Fmt.{decimal}
use Rattle.std.specs.Str.Lines.{lines}
use Rattle.std.proofs.lemmas.Bool.{cases_eq, cases_lt}
use Rattle.std.proofs.lemmas.List.Elements.{All-nil, All-cons, All-head, All-tail}
use Rattle.plp_config.specs.declared.config.Config.{Config}
use Rattle.config_text.specs.ConfigText.{is_skipped, kept, full_words, version_in, IsPrintable, ReadsLine, ReadsLines}
use Rattle.config_text.specs.ConfigText.{HasKey, HasCount}
use Rattle.config_text.specs.ConfigText.{RefusesLine, RefusesAt, Refuses, Spells}
use Rattle.config_text.specs.Fields.{Spelling, spelling_of, key_at, fields_at, place_from, SpellsValue, SpellsFields}
use Rattle.config_text.specs.Fields.{FailsFirst}
use Rattle.config_text.specs.Fields.{why_of}
use Rattle.config_text.specs.Fields.Spelling.{Number, Word}
use Rattle.config_text.specs.Words.{FitLines}
use Rattle.config_text.specs.declared.fault.TextWhy.{TextWhy}
use Rattle.config_text.specs.declared.fault.TextWhy.TheVariants.{NotAscii, WrongKey, WrongCount, EndsEarly, TooLong}
use Rattle.config_text.specs.declared.field.Field.{Field}
use Rattle.config_text.proofs.FieldLemmas.{line_fits}
use Rattle.config_text.proofs.LineLemmas.{lines_count, lines_more, first_row}
use Rattle.config_text.proofs.RowLemmas.{config_from, config_rows}
use Rattle.config_text.proofs.TextLemmas.{kept-append, kept-parted, kept-skip}

decide_bytes : (a b : List ℕ) → (a ≡ b) ⊎ (a ≡ b → ⊥)
decide_bytes [] [] = inl refl
decide_bytes [] (y ∷ ys) = inr (λ e. let d : [] ≡ y ∷ ys = e in cc)
decide_bytes (x ∷ xs) [] = inr (λ e. let d : x ∷ xs ≡ [] = e in cc)
decide_bytes (x ∷ xs) (y ∷ ys) =
    elim (cases_eq x y) [
      | inl first ↦
          elim (decide_bytes xs ys) [
            | inl rest ↦ inl (let a : x ≡ y = first in let b : xs ≡ ys = rest in cc)
            | inr differ ↦ inr (λ e. differ (let d : x ∷ xs ≡ y ∷ ys = e in cc))
          ]
      | inr differ ↦ inr (λ e. differ (let d : x ∷ xs ≡ y ∷ ys = e in cc))
    ]

decide_printable : (line : List ℕ) → All IsPrintable line ⊎ (All IsPrintable line → ⊥)
decide_printable [] = inl (All-nil IsPrintable)
decide_printable (x ∷ xs) =
    elim (cases_lt x 32) [
      | inl low ↦ inr (λ all. let first : IsPrintable x = All-head IsPrintable x xs all in absurd
          (omega (arith, first.0, low)))
      | inr least ↦
          elim (cases_lt 126 x) [
            | inl high ↦ inr (λ all. let first : IsPrintable x = All-head IsPrintable x xs all in
                absurd (omega (arith, first.1, high)))
            | inr most ↦
                elim (decide_printable xs) [
                  | inl rest ↦ inl (All-cons IsPrintable x xs (least, most) rest)
                  | inr differ ↦ inr (λ all. differ (All-tail IsPrintable x xs all))
                ]
          ]
    ]

-- a word is the decimal of a number from the least to the greatest, or of none
abbrev Decimal : ℕ → ℕ → List ℕ → Type 0
Decimal least greatest word = (n : ℕ) × SpellsValue (Number least greatest) n word

abbrev NoDecimal : ℕ → ℕ → List ℕ → Type 0
NoDecimal least greatest word = (n : ℕ) → SpellsValue (Number least greatest) n word → ⊥

decide_here : (least n : ℕ) (word : List ℕ) → ((word ≡ decimal n) × (least ≤ n))
    ⊎ ((word ≡ decimal n) × (least ≤ n) → ⊥)
decide_here least n word =
    elim (cases_lt n least) [
      | inl low ↦ inr (λ h. absurd (omega (arith, h.1, low)))
      | inr enough ↦ elim (decide_bytes word (decimal n)) [
        | inl same ↦ inl (same, enough)
        | inr differ
            ↦ inr (λ h. differ h.0)
      ]
    ]

decide_decimal : (least greatest : ℕ) (word : List ℕ) → Decimal least greatest word ⊎ NoDecimal least greatest word
decide_decimal least zero word =
    elim (decide_here least 0 word) [
      | inl yes_here ↦ inl (0, (yes_here.0, yes_here.1, omega arith))
      | inr differ ↦
          inr (λ n h. let e : n ≡ 0 = omega (arith, h.2) in
          differ (subst (λ (k : ℕ). (word ≡ decimal k) × (least ≤ k)) e (h.0, h.1)))
    ]
decide_decimal least (suc greatest) word =
    elim (decide_decimal least greatest word) [
      | inl found ↦ inl (found.0, (found.1.0, found.1.1, omega (arith, found.1.2)))
      | inr before ↦
          elim (decide_here least (suc greatest) word) [
            | inl yes_here ↦ inl (suc greatest, (yes_here.0, yes_here.1, omega arith))
            | inr differ ↦
                inr (λ n h.
                elim (cases_lt n (suc greatest)) [
                  | inl lower ↦ before n (h.0, h.1, omega (arith, lower))
                  | inr top ↦ let e : n ≡ suc greatest = omega (arith, h.2, top) in
                      differ (subst (λ (k : ℕ). (word ≡ decimal k) × (least ≤ k)) e (h.0, h.1))
                ])
          ]
    ]

decide_option : (found : Option ℕ) → ((n : ℕ) × (found ≡ Some n)) ⊎ ((n : ℕ) → found ≡ Some n → ⊥)
decide_option None = inr (λ n e. let d : None ≡ Some n = e in cc)
decide_option (Some n) = inl (n, refl)

decide_value : (s : Spelling) (word : List ℕ) → ((n : ℕ) × SpellsValue s n word) ⊎ ((n : ℕ) → SpellsValue s n word → ⊥)
decide_value (Number least greatest) word = decide_decimal least greatest word
decide_value (Word words) word = decide_option (place_from 0 word words)

decide_fields : (fs : List Field) (ws : List (List ℕ)) → length ws ≡ length fs → ((ns : List ℕ) × SpellsFields fs ns ws)
    ⊎ ((why : TextWhy) × FailsFirst fs ws why)
decide_fields [] [] count = inl ([], tt)
decide_fields [] (w ∷ ws) count = absurd (omega arith)
decide_fields (f ∷ fs) [] count = absurd (omega arith)
decide_fields (f ∷ fs) (w ∷ ws) count =
    elim (decide_value (spelling_of f) w) [
      | inl value ↦
          elim (decide_fields fs ws (omega arith)) [
            | inl rest ↦ inl (value.0 ∷ rest.0, (value.1, rest.1))
            | inr fails ↦ inr (fails.0, inr (value.0, value.1, fails.1))
          ]
      | inr none ↦ inr (why_of (spelling_of f), inl (none, refl))
    ]

heads : (ws : List (List ℕ)) (key : List ℕ) → slice_index_or ws 0 [] ≡ key → 0 < length ws → ws ≡ key ∷ drop 1 ws
heads [] key e some = absurd (omega arith)
heads (w ∷ ws) key e some = ap (λ (x : List ℕ). x ∷ ws) e

length-drop_one : (ws : List (List ℕ)) (n : ℕ) → length ws ≡ n + 1 → length (drop 1 ws) ≡ n
length-drop_one [] n e = absurd (omega arith)
length-drop_one (w ∷ ws) n e = omega arith

decide_count : (v due : ℕ) (line : List ℕ) → HasCount v due line ⊎ (HasCount v due line → ⊥)
decide_count v due line =
    elim (cases_eq (length (full_words v due line)) (length (fields_at due) + 1)) [
      | inl same ↦
          elim (cases_lt due 263) [
            | inl room ↦ inl (same, room)
            | inr full ↦ inr
                (λ h. absurd (omega (arith, h.1, full)))
          ]
      | inr differ ↦ inr (λ h. differ h.0)
    ]

decide_words : (v due : ℕ) (line : List ℕ) → All IsPrintable line → HasKey v due line → HasCount v due line
    → ((row : List ℕ) × ReadsLine v due line row) ⊎ ((why : TextWhy) × RefusesLine v due line why)
decide_words v due line printable key count =
    elim (decide_fields (fields_at due) (drop 1 (full_words v due line))
    (length-drop_one (full_words v due line) (length (fields_at due)) count.0)) [
      | inl fields ↦
          inl (
            fields.0,
            record {
              printable = printable;
              words = drop 1 (full_words v due line);
              is = heads (full_words v due line) (key_at due) key (omega (arith, count.0));
              fields = fields.1;
              room = count.1;
            },
          )
      | inr fails ↦ inr (fails.0, inr (inr (inr (printable, key, count, fails.1))))
    ]

decide_line : (v due : ℕ) (line : List ℕ) → ((row : List ℕ) × ReadsLine v due line row)
    ⊎ ((why : TextWhy) × RefusesLine v due line why)
decide_line v due line =
    elim (decide_printable line) [
      | inl printable ↦
          elim (decide_bytes (slice_index_or (full_words v due line) 0 []) (key_at due)) [
            | inl key ↦
                elim (decide_count v due line) [
                  | inl count ↦ decide_words v due line printable key count
                  | inr differ ↦ inr (WrongCount, inr (inr (inl (printable, key, differ, refl))))
                ]
            | inr differ ↦ inr (WrongKey, inr (inl (printable, differ, refl)))
          ]
      | inr differ ↦ inr (NotAscii, inl (differ, refl))
    ]

-- ---- lines

abbrev Decided : List ℕ → Type 0
Decided text = ((rows : List (List ℕ)) × ReadsLines (version_in text) 0 (kept (lines text)) rows)
    ⊎ ((number : ℕ) × (why : TextWhy) × RefusesAt text number why)

decide_lines : (text : List ℕ) (before left rows : List (List ℕ)) → length text ≤ 65536 → lines text ≡ before ++ left
    → ReadsLines (version_in text) 0 (kept before) rows → Decided text
decide_lines text before [] rows fits are reads =
    let all : lines text ≡ before = are ∙ append-nil before in
    inl (rows, subst (λ (l : List (List ℕ)). ReadsLines (version_in text) 0 (kept l) rows) (sym all) reads)
decide_lines text before (line ∷ left) rows fits are reads =
    decide_next text before left rows line fits are reads (is_skipped line) refl
    (λ rows more. decide_lines text (before ++ line ∷ []) left rows fits (are
    ∙ sym (append_assoc before (line ∷ []) left))
    more)
  where
    decide_next : (text : List ℕ) (before left rows : List (List ℕ)) (line : List ℕ) → length text ≤ 65536
        → lines text ≡ before ++ line ∷ left → ReadsLines (version_in text) 0 (kept before) rows
        → (skipped : Bool) → is_skipped line ≡ skipped
        → ((more : List (List ℕ)) → ReadsLines (version_in text) 0 (kept (before ++ line ∷ [])) more
        → Decided text) → Decided text
    decide_next text before left rows line fits are reads true skips go =
        let same : kept (before ++ line ∷ []) ≡ kept before =
        kept-append before (line ∷ []) ∙ ap (λ (l : List (List ℕ)). kept before ++ l) (kept-skip line [] skips)
        ∙ append-nil (kept before) in
        go rows (subst (λ (l : List (List ℕ)). ReadsLines (version_in text) 0 l rows) (sym same) reads)
    decide_next text before left rows line fits are reads false stays go =
        elim (decide_line (version_in text) (length (kept before)) line) [
          | inl row ↦
              let zero_plus : length (kept before) ≡ 0 + length (kept before) = omega arith in
              let here : ReadsLine (version_in text) (0 + length (kept before)) line row.0 =
              subst (λ (d : ℕ). ReadsLine (version_in text) d line row.0) zero_plus row.1 in
              let more : ReadsLines (version_in text) 0 (kept before ++ line ∷ []) (rows ++ row.0 ∷ []) =
              lines_more (version_in text) 0 (kept before) rows line row.0 reads here in
              go (rows ++ row.0 ∷ [])
              (subst (λ (l : List (List ℕ)). ReadsLines (version_in text) 0 l (rows ++ row.0 ∷ []))
              (sym (kept-parted before [] line stays))
              more)
          | inr refuses ↦
              inr (
                length before + 1,
                refuses.0,
                record {
                  fits = fits;
                  before = before;
                  line = line;
                  after = left;
                  are = are;
                  stays = stays;
                  rows = rows;
                  reads = reads;
                  refuses = refuses.1;
                  at = refl;
                },
              )
        ]

-- lines that are read fit
lines_fit : (v due : ℕ) (ls rows : List (List ℕ)) → ReadsLines v due ls rows → FitLines due rows
lines_fit v due [] [] reads = tt
lines_fit v due [] (r ∷ rs) reads = absurd reads
lines_fit v due (l ∷ ls) [] reads = absurd reads
lines_fit v due (l ∷ ls) (r ∷ rs) reads = (line_fits v due l r reads.0, lines_fit v (suc due) ls rs reads.1)

pub text_decided : (text : List ℕ) → ((c : Config) × Spells text c) ⊎ ((number : ℕ) × (why : TextWhy)
    × Refuses text number why)
text_decided text =
    elim (cases_lt 65536 (length text)) [
      | inl long ↦ inr (0, TooLong, inl record { long = long; at = refl; reason = refl })
      | inr fits ↦
          elim (decide_lines text [] (lines text) [] fits refl tt) [
            | inl reads ↦
                elim (cases_lt (length reads.0) 8) [
                  | inl few ↦
                      inr (
                        length (lines text) + 1,
                        EndsEarly,
                        inr (inl record {
                          fits = fits;
                          few = omega (arith, few, lines_count (version_in text) 0 (kept (lines text)) reads.0 reads.1);
                          rows = reads.0;
                          reads = reads.1;
                          at = refl;
                          reason = refl;
                        }),
                      )
                  | inr enough ↦
                      inl (
                        config_from reads.0,
                        record {
                          fits = fits;
                          reads = subst (λ (rows : List (List ℕ)). ReadsLines (version_in text) 0 (kept (lines text))
                              rows)
                              (sym (config_rows (version_in text) reads.0 (lines_fit (version_in text)
                              0 (kept (lines text)) reads.0 reads.1) enough
                              (first_row (kept (lines text)) reads.0 reads.1 (omega (arith, enough))))) reads.1;
                        },
                      )
                ]
            | inr refuses ↦ inr (refuses.0, refuses.1, inr (inr refuses.2))
          ]
    ]
