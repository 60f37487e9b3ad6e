-- The fields of a line, one after another.
use Rattle.std.proofs.Common.{ℕ, zero, suc, ◌≡◌, ◌<◌, ◌≤◌, ◌+◌, ◌∷◌, ◌++◌, ◌∙◌, List, [], length, take, drop, get_or}
use Rattle.std.proofs.Common.{ap}
use Rattle.std.proofs.Common.{sym, subst, arith, refl, cond, Some, None, bytes_eq, Bool, true, false, append-nil}
use Rattle.std.proofs.Common.{length-drop, map, Bor}
use Rattle.std.proofs.lemmas.List.{at_drop_more}
use Rattle.config_text.specs.ConfigText.{ReadsLine}
use Rattle.config_text.specs.Fields.{SpellsFields, SpellsValue, FailsFirst, Spelling, spelling_of}
use Rattle.config_text.specs.Fields.{place_from, fields_at}
use Rattle.config_text.specs.Fields.Spelling.{Number, Word}
use Rattle.config_text.specs.Words.{values_from, first_values, Fits, FitFields}
use Rattle.config_text.specs.declared.field.Field.{Field}
use Rattle.config_text.specs.declared.fault.TextWhy.{TextWhy}

-- Fields up to i have their values, and the words that are left are for the others.
pub record Goes (fields : List Field) (words : List (List ℕ)) (i : ℕ) (left : List (List ℕ)) (values : List ℕ) :
    Type 0 where
  pub size : length values ≡ 12
  pub count : length left + i ≡ length fields
  pub ok : (vs : List ℕ) → SpellsFields (drop i fields) vs left → SpellsFields fields (take i values ++ vs) words
  pub err : (why : TextWhy) → FailsFirst (drop i fields) left why → FailsFirst fields words why

values_from-cons : (x : ℕ) (n place : ℕ) (values : List ℕ) → values_from (suc place) n (x ∷ values) ≡ values_from
    place n values
values_from-cons x zero place values = refl
values_from-cons x (suc n) place values = ap (λ (l : List ℕ). get_or values place 0 ∷ l)
    (values_from-cons x n (suc place) values)

pub first_values-take : (n : ℕ) (values : List ℕ) → n ≤ length values → first_values n values ≡ take n values
first_values-take zero values within = refl
first_values-take (suc n) [] within = absurd (omega arith)
first_values-take (suc n) (x ∷ values) within =
    ap (λ (l : List ℕ). x ∷ l) (values_from-cons x n 0 values ∙ first_values-take n values (omega arith))

-- nothing is left
spelled_none : (fields : List Field) (left : List (List ℕ)) → length fields ≡ 0 → length left ≡ 0
    → SpellsFields fields [] left
spelled_none [] [] a b = tt
spelled_none [] (w ∷ ws) a b = absurd (omega arith)
spelled_none (f ∷ fs) left a b = absurd (omega arith)

pub goes_ends : (fields : List Field) (words : List (List ℕ)) (i : ℕ) (left : List (List ℕ)) (values : List ℕ)
    → Goes fields words i left values → i ≡ length fields → length fields ≤ 12
    → SpellsFields fields (first_values (length fields) values) words
goes_ends fields words i left values goes end few =
    let none : SpellsFields (drop i fields) [] left = spelled_none (drop i fields) left
    (omega (arith, length-drop i fields))
    (omega (arith, goes.count)) in
    let all : SpellsFields fields (take i values) words = rw append-nil at (goes.ok [] none) in
    let same : first_values (length fields) values ≡ take i values =
    first_values-take (length fields) values (omega (arith, goes.size)) ∙ ap (λ (k : ℕ). take k values) (sym end) in
    subst (λ (row : List ℕ). SpellsFields fields row words) (sym same) all

-- words behind references
abbrev words_now : List (Bor (List ℕ)) → List (List ℕ)
words_now words = map (λ w. w.now) words

-- a word is the next one, or has its place among those behind it
pub place_next : (word : List ℕ) (words : List (Bor (List ℕ))) (at : ℕ) (other : Bor (List ℕ)) → at < length words
    → other ≡ get_or words at other
    → place_from at word (words_now (drop at words))
    ≡ cond (bytes_eq word other.now) (Some at) (place_from (at + 1) word (words_now (drop (at + 1) words)))
place_next word words at other inside is =
    at_drop_more (λ (l : List (Bor (List ℕ))). place_from at word (words_now l)) words at other inside
    ∙ ap (λ (x : Bor (List ℕ)). cond (bytes_eq word x.now) (Some at)
    (place_from (at + 1) word (words_now (drop (at + 1) words))))
    (sym is)

-- a place is one of the list
place_lt : (k : ℕ) (word : List ℕ) (ws : List (List ℕ)) (n : ℕ) → place_from k word ws ≡ Some n → n < k + length ws
place_lt k word [] n e = absurd (let none : None ≡ Some n = e in cc)
place_lt k word (w ∷ ws) n e = step (bytes_eq word w) (λ later. place_lt (k + 1) word ws n later) e
  where
    step : (same : Bool) → (place_from (k + 1) word ws ≡ Some n → n < k + 1 + length ws)
        → cond same (Some k) (place_from (k + 1) word ws) ≡ Some n → n < k + length (w ∷ ws)
    step true later e = (let here : Some k ≡ Some n = e in let same : k ≡ n = cc in omega arith)
    step false later e = omega (arith, later e)

value_fits : (s : Spelling) (n : ℕ) (word : List ℕ) → SpellsValue s n word → Fits s n
value_fits (Number least greatest) n word spells = (spells.1, spells.2)
value_fits (Word words) n word spells = omega (arith, place_lt 0 word words n spells)

pub fields_fit : (fs : List Field) (ns : List ℕ) (ws : List (List ℕ)) → SpellsFields fs ns ws → FitFields fs ns
fields_fit [] [] [] spells = tt
fields_fit [] [] (w ∷ ws) spells = absurd spells
fields_fit [] (n ∷ ns) ws spells = absurd spells
fields_fit (f ∷ fs) [] ws spells = absurd spells
fields_fit (f ∷ fs) (n ∷ ns) [] spells = absurd spells
fields_fit (f ∷ fs) (n ∷ ns) (w ∷ ws) spells = (value_fits (spelling_of f) n w spells.0, fields_fit fs ns ws spells.1)

pub line_fits : (v due : ℕ) (line row : List ℕ) → ReadsLine v due line row → FitFields (fields_at due) row
line_fits v due line row reads = fields_fit (fields_at due) row reads.words reads.fields
