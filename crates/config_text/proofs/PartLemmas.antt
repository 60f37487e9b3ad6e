-- Lists that are parted at a number, and lines.
use Rattle.std.proofs.Common.{ℕ, ◌≡◌, ◌≢◌, ◌<◌, ◌+◌, ◌∷◌, ◌++◌, ◌∙◌, List, [], Bool, false, All, length, take, drop}
use Rattle.std.proofs.Common.{get_or, ap}
use Rattle.std.proofs.Common.{sym, subst, arith, eq-eqb, ne_eqb, refl, ◌==◌, take-append-drop, length-drop}
use Rattle.std.proofs.lemmas.List.Sums.{count_by-le-length}
use Rattle.std.proofs.lemmas.Bool.{cond-false}
use Rattle.std.specs.List.{slice_split, count_by}
use Rattle.std.specs.Str.Lines.{lines, lines_of_parts, strip_carriage_return}
use Rattle.std.proofs.lemmas.List.{drop_more, get_or-take, length-take-le}
use Rattle.std.proofs.lemmas.List.Elements.{All-from_get_or}
use Rattle.std.proofs.lemmas.List.Splits.{slice_split_none, slice_split_at, length-slice_split}

-- the byte does not pass the test
abbrev pub IsNot : ℕ → ℕ → Type 0
IsNot s b = (b == s) ≡ false

-- no byte is the separator: one part
pub split_none : (s : ℕ) (xs : List ℕ) → ((k : ℕ) → k < length xs → get_or xs k 0 ≢ s)
    → slice_split (λ b. b == s) xs ≡ xs ∷ []
split_none s xs none =
    slice_split_none (λ b. b == s) xs (All-from_get_or (IsNot s) xs 0 (λ k inside. ne_eqb (get_or xs k 0)
    s (none k inside)))

-- the first separator is at i: a part before it, and the parts behind it
pub split_first : (s : ℕ) (xs : List ℕ) (i : ℕ) → i < length xs → get_or xs i 0 ≡ s
    → ((k : ℕ) → k < i → get_or xs k 0 ≢ s)
    → slice_split (λ b. b == s) xs ≡ take i xs ∷ slice_split (λ b. b == s) (drop (i + 1) xs)
split_first s xs i inside here before =
    let around : xs ≡ take i xs ++ s ∷ drop (i + 1) xs =
    sym (take-append-drop i xs)
    ∙ ap (λ (l : List ℕ). take i xs ++ l) (drop_more xs i 0 inside ∙ ap (λ (b : ℕ). b ∷ drop (i + 1) xs) here) in
    let none : All (IsNot s) (take i xs) =
    All-from_get_or (IsNot s) (take i xs) 0
    (λ k short. let below : k < i = omega (arith, length-take-le i xs (omega arith)) in
    subst (IsNot s) (sym (get_or-take i xs k 0 below)) (ne_eqb (get_or xs k 0) s (before k below))) in
    ap (λ (l : List ℕ). slice_split (λ b. b == s) l) around ∙ slice_split_at (λ b. b == s) (take i xs)
    s (drop (i + 1) xs) none
    (eq-eqb s s refl)

pub some_part : (p : ℕ → Bool) (xs : List ℕ) → 0 < length (slice_split p xs)
some_part p xs = omega (arith, length-slice_split p xs)

-- a line with an LF behind it comes before the other lines
lines-cons : (x : List ℕ) (parts : List (List ℕ)) → 0 < length parts
    → lines_of_parts (x ∷ parts) ≡ strip_carriage_return x
    ∷ lines_of_parts parts
lines-cons x [] some = absurd (omega arith)
lines-cons x (y ∷ more) some = refl

pub lines_first : (text x rest : List ℕ) → slice_split (λ b. b == 10) text ≡ x ∷ slice_split (λ b. b == 10) rest
    → lines text ≡ strip_carriage_return x ∷ lines rest
lines_first text x rest e = ap lines_of_parts e ∙ lines-cons x (slice_split (λ b. b == 10) rest)
    (some_part (λ b. b == 10) rest)

-- a last line is one that is not empty
pub lines_last : (text : List ℕ) → slice_split (λ b. b == 10) text ≡ text ∷ [] → (length text ≡ 0 → ⊥)
    → lines text ≡ text ∷ []
lines_last text e some = ap lines_of_parts e ∙ cond-false (length text == 0) [] (text ∷ [])
    (ne_eqb (length text) 0 some)

-- all separators are counted
pub counted : (p : ℕ → Bool) (xs : List ℕ) (count i : ℕ) → count_by p xs ≡ count + count_by p (drop i xs)
    → i ≡ length xs
    → count + 1 ≡ length (slice_split p xs)
counted p xs count i all end = omega (
  arith,
  length-slice_split p xs,
  count_by-le-length p (drop i xs),
  length-drop i xs,
)
