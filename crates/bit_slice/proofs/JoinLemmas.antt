-- Parts of two lists, one behind the other.
use Rattle.std.proofs.Common.{◌≡◌, ℕ, ◌+◌, ◌-◌, ◌*◌, ◌%◌, ◌^◌, ◌<◌, ◌≤◌, ⊎_elim, List, Bool, true, ◌++◌, length, take}
use Rattle.std.proofs.Common.{drop, refl}
use Rattle.std.proofs.Common.{ap, sym, ◌∙◌, arith, append-nil}
use Rattle.std.specs.Prelude.{min, bit_or, IsTrue, nat_eq, ◌↔◌}
use Rattle.std.proofs.lemmas.Bool.{cases_lt}
use Rattle.std.proofs.lemmas.Bool.Decides.{Decides-eqb}
use Rattle.std.proofs.lemmas.List.{drop-append-le, take_all, length-drop}
use Rattle.std.proofs.lemmas.Nat.{or_shifted, shl_below}
use Rattle.std.proofs.Math.Nat.{mod-eq_of_lt, pow-le-pow_right}
use Rattle.std.proofs.Math.Seq.{take-append-add, drop-append-add, take-add}
use Rattle.terms.specs.Bits.{field, number_of, number_at, part}
use Rattle.terms.proofs.BitLemmas.{number_of-append, number_of-lt, length-part, part-append, part-part, field-number_at}

-- a part that lies in the second
pub behind_part : {X : Type 0} (xs ys : List X) (f l : ℕ) → length xs ≤ f → take l (drop f (xs ++ ys))
    ≡ take l (drop (f - length xs) ys)
behind_part xs ys f l h =
    let place : f ≡ length xs + (f - length xs) = omega arith in
    ap (λ (k : ℕ). take l (drop k (xs ++ ys))) place ∙ ap (take l) (drop-append-add xs ys (f - length xs))

-- a part that lies across the seam
across_part : {X : Type 0} (xs ys : List X) (f l before : ℕ) → f ≤ length xs → before ≡ length xs - f → before ≤ l →
    take l (drop f (xs ++ ys)) ≡ take before (drop f xs) ++ take (l - before) ys
across_part xs ys f l before h is less =
    let size : length (drop f xs) ≡ before = length-drop f xs ∙ sym is in
    let few : length (drop f xs) ≤ before = omega arith in
    let sum : l ≡ length (drop f xs) + (l - before) = omega arith in
    ap (take l) (drop-append-le f xs ys h) ∙ ap (λ (k : ℕ). take k (drop f xs ++ ys)) sum
    ∙ take-append-add (drop f xs) ys (l - before)
    ∙ ap (λ (zs : List _). zs ++ take (l - before) ys) (sym (take_all before (drop f xs) few))

-- how the code finds a part
pub joined_part : {X : Type 0} (xs ys : List X) (f l from taken : ℕ) → from ≡ min f (length xs)
    → taken ≡ min l (length xs - from)
    →
    take taken (drop from xs) ++ take (l - taken) (drop (f - from) ys) ≡ take l (drop f (xs ++ ys))
joined_part xs ys f l from taken is_from is_taken =
    ⊎_elim
    (λ (inside : f < length xs).
    let same : from ≡ f = omega arith in
    let none : f - f ≡ 0 = omega arith in
    ⊎_elim
    (λ (short : l < length xs - f).
    let all : taken ≡ l = omega arith in
    let rest : l - l ≡ 0 = omega arith in
    rw (same, all, rest) (append-nil (take l (drop f xs)) ∙ sym (part-append xs ys f l (omega arith))))
    (λ (long : length xs - f ≤ l).
    let before : taken ≡ length xs - f = omega arith in
    rw (same, none) (sym (across_part xs ys f l taken (omega arith) before (omega arith))))
    (cases_lt l (length xs - f)))
    (λ (behind : length xs ≤ f).
    let same : from ≡ length xs = omega arith in
    let none : taken ≡ 0 = omega arith in
    let rest : l - 0 ≡ l = omega arith in
    rw (same, none, rest) (sym (behind_part xs ys f l behind)))
    (cases_lt f (length xs))

-- how the code reads a field across the seam
pub seam_read : (xs ys : List Bool) (f l before x y : ℕ) → f ≤ length xs → before ≡ length xs - f → before ≤ l → l ≤ 64
    → l - before ≤ length ys →
    x ≡ number_at xs f before → y ≡ number_at ys 0 (l - before) → bit_or (x * 2 ^ (l - before) % 2 ^ 64) y
    ≡ number_at (xs ++ ys) f l
seam_read xs ys f l before x y h is less narrow inside is_x is_y =
    let m : ℕ = l - before in
    let wide_x : length (part xs f before) ≡ before = length-part xs f before (omega arith) in
    let wide_y : length (part ys 0 m) ≡ m = length-part ys 0 m (omega arith) in
    let small_x : x < 2 ^ before = rw is_x (rw wide_x at (number_of-lt (part xs f before))) in
    let small_y : y < 2 ^ m = rw is_y (rw wide_y at (number_of-lt (part ys 0 m))) in
    let sum : before + m ≡ l = omega arith in
    let fits : x * 2 ^ m < 2 ^ l = rw sum at (shl_below x before m small_x) in
    let two : 0 < 2 = omega arith in
    let most : 2 ^ l ≤ 2 ^ 64 = pow-le-pow_right two narrow in
    let below : x * 2 ^ m < 2 ^ 64 = omega arith in
    let spelled : number_at (xs ++ ys) f l ≡ number_at xs f before * 2 ^ length (part ys 0 m) + number_at ys 0 m =
    ap number_of (across_part xs ys f l before h is less) ∙ number_of-append (part xs f before) (part ys 0 m) in
    rw (mod-eq_of_lt below) (or_shifted x m y small_y
    ∙ sym (spelled ∙ ap (λ (k : ℕ). number_at xs f before * 2 ^ k + number_at ys 0 m) wide_y
    ∙ rw (← is_x, ← is_y) refl))

-- ---- the same bits, by their numbers
same_part : (a b : List Bool) (at width : ℕ) → at + width ≤ length a → at + width ≤ length b → number_at a at width
    ≡ number_at b at width → part a at width ≡ part b at width
same_part a b at width in_a in_b e = sym (field-number_at a at width in_a) ∙ ap (field width) e
    ∙ field-number_at b at width in_b

pub word_more : (a b : List Bool) (at width : ℕ) → at + width ≤ length a → at + width ≤ length b → take at a ≡ take at b
    → number_at a at width ≡ number_at b at width →
    take (at + width) a ≡ take (at + width) b
word_more a b at width in_a in_b front e = grind (arith, take-add, same_part)

pub word_of : (a b : List Bool) (at width count : ℕ) → at + width ≤ count → take count a ≡ take count b
    → number_at a at width
    ≡ number_at b at width
word_of a b at width count inside e =
    let place : 0 + at ≡ at = omega arith in
    let of : (xs : List Bool) → part (take count xs) at width ≡ part xs at width = λ xs. part-part xs
    0 count at width inside
    ∙ ap (λ (k : ℕ). part xs k width) place in
    ap number_of (sym (of a) ∙ ap (λ (xs : List Bool). part xs at width) e ∙ of b)

pub all_same : (a b : List Bool) (at width : ℕ) → at + width ≡ length a → length b ≡ length a → take at a ≡ take at b
    → number_at a at width ≡ number_at b at width → a ≡ b
all_same a b at width size long front e =
    let few_a : length a ≤ at + width = omega arith in
    let few_b : length b ≤ at + width = omega arith in
    sym (take_all (at + width) a few_a) ∙ word_more a b at width (omega arith) (omega arith) front e
    ∙ take_all (at + width) b few_b

-- if the words at the front are the same, the rest decides
pub words_same : (a b : List Bool) (at rest x y : ℕ) → at + rest ≡ length a → length b ≡ length a
    → (IsTrue true ↔ (take at a ≡ take at b)) →
    x ≡ number_at a at rest → y ≡ number_at b at rest → IsTrue (nat_eq x y) ↔ (a ≡ b)
words_same a b at rest x y size long words is_x is_y = grind (arith, all_same, Decides-eqb)
