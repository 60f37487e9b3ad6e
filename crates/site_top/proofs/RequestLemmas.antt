-- The names of inputs, one by one, and the number that a word names.
use Rattle.std.proofs.Common.{◌≡◌, ◌≢◌, ℕ, zero, suc, ◌+◌, ◌-◌, ◌<◌, ◌≤◌, ◌^◌, ◌&&◌, Bool, true, false, cond, List}
use Rattle.std.proofs.Common.{length, drop, Option, Some, None, refl, ap, sym, subst, ◌∙◌, arith, bytes_eq}
use Rattle.std.specs.Prelude.{slice_index_or, IfSome, IfNone}
use Rattle.std.specs.Fmt.{decimal}
use Rattle.std.specs.List.{find, range_with_len}
use Rattle.std.proofs.lemmas.Bool.{both_ways, cond-false}
use Rattle.std.proofs.lemmas.Fmt.{decimal_injective}
use Rattle.std.proofs.lemmas.List.{at_drop_more}
use Rattle.std.proofs.lemmas.Slice.Eq.{bytes_eq-Decides}
use Rattle.config_text.specs.Fields.{SpellsValue}
use Rattle.config_text.specs.Fields.Spelling.{Number}
use Rattle.site_top.specs.Commands.{is_input, are_inputs, number_named}

-- one name is taken from the front
pub next_input : (out : List ℕ) (ins : List (List ℕ)) (at : ℕ) (name : List ℕ) → at < length ins
    → name ≡ slice_index_or ins at name → are_inputs out (drop at ins) ≡ is_input out name
    && are_inputs out (drop (at + 1) ins)
next_input out ins at name inside is =
    at_drop_more (are_inputs out) ins at name inside
    ∙ ap (λ (n : List ℕ). is_input out n && are_inputs out (drop (at + 1) ins))
    (sym is)

-- ---- the first of some numbers that passes a test

-- it is the first number, or it comes behind
here_or : (test : ℕ → Bool) (from n : ℕ) (rest : Option ℕ) (b : Bool) → test from ≡ b → (test from ≡ true → from ≡ n)
    → (test from ≡ false → rest ≡ Some n) → cond b (Some from) rest ≡ Some n
here_or test from n rest true t here behind = ap Some (here t)
here_or test from n rest false t here behind = behind t

apart : (test : ℕ → Bool) (from n : ℕ) → test n ≡ true → test from ≡ false → from ≢ n
apart test from n passes fails same = both_ways _ (subst (λ (k : ℕ). test k ≡ false) same fails) passes

-- only one passes
only_one : (test : ℕ → Bool) (from count n : ℕ) → from ≤ n → n < from + count → test n ≡ true
    → ((m : ℕ) → m < from + count → test m ≡ true → m ≡ n) → find test (range_with_len from count) ≡ Some n
only_one test from zero n least most passes only = absurd (omega (arith, least, most))
only_one test from (suc count) n least most passes only =
    here_or test from n (find test (range_with_len (from + 1) count)) (test from) refl (only from (omega arith))
    (λ fails. only_one test (from + 1) count n (let differ = apart test from n passes fails in omega
    (arith, least, differ))
    (omega (arith, most)) passes (λ m below. only m (omega (arith, below))))

-- none does
none_passes : (test : ℕ → Bool) (from count : ℕ) → ((m : ℕ) → from ≤ m → m < from + count → test m ≡ false)
    → find test (range_with_len from count) ≡ None
none_passes test from zero none = refl
none_passes test from (suc count) none =
    cond-false (test from) (Some from) (find test (range_with_len (from + 1) count))
    (none from (omega arith) (omega arith))
    ∙ none_passes test (from + 1) count (λ m least below. none m (omega (arith, least)) (omega (arith, below)))

-- a word is the decimal of one number at most
same_number : (word : List ℕ) (m n : ℕ) → m < 2 ^ 64 → n < 2 ^ 64 → bytes_eq word (decimal m) ≡ true
    → word ≡ decimal n → m ≡ n
same_number word m n small short e is = decimal_injective m n small short (sym ((bytes_eq-Decides word (decimal m)).0 e)
    ∙ is)

-- the word is the decimal of a number in the range
names_number : (word bytes : List ℕ) (least most n : ℕ) → most < 2 ^ 64 → bytes ≡ word
    → SpellsValue (Number least most) n bytes
    → number_named least most word ≡ Some n
unfolding number_named
names_number word bytes least most n short same spells =
    let many = spells.1 in
    let few = spells.2 in
    only_one (λ m. bytes_eq word (decimal m)) least (most + 1 - least) n many (omega (arith, many, few))
    ((bytes_eq-Decides word (decimal n)).1 (sym same ∙ spells.0))
    (λ m below e. same_number word m n (omega (arith, below, many, few, short)) (omega (arith, few, short)) e
    (sym same ∙ spells.0))

-- or it is that of none
no_test : (word bytes : List ℕ) (least most m : ℕ) → least ≤ m → m ≤ most → bytes ≡ word
    → ((n : ℕ) → SpellsValue (Number least most) n bytes → ⊥) → (b : Bool) → bytes_eq word (decimal m) ≡ b → b ≡ false
no_test word bytes least most m from below same none false e = refl
no_test word bytes least most m from below same none true e =
    absurd (none m (same ∙ (bytes_eq-Decides word (decimal m)).0 e, from, below))

names_none : (word bytes : List ℕ) (least most : ℕ) → bytes ≡ word → ((n : ℕ) → SpellsValue (Number least most) n bytes
    → ⊥)
    → number_named least most word ≡ None
unfolding number_named
names_none word bytes least most same none =
    none_passes (λ m. bytes_eq word (decimal m)) least (most + 1 - least)
    (λ m from below. no_test word bytes least most m from (omega (arith, from, below)) same none
    (bytes_eq word (decimal m)) refl)

-- what a word spells is the number that it names
pub named : (word bytes : List ℕ) (least most : ℕ) (result : Option ℕ) → most < 2 ^ 64 → bytes ≡ word
    → IfSome result (λ n. SpellsValue (Number least most) n bytes)
    → IfNone result ((n : ℕ) → SpellsValue (Number least most) n bytes → ⊥)
    → result ≡ number_named least most word
named word bytes least most (Some n) short same some none = sym (names_number word bytes least most n short same some)
named word bytes least most None short same some none = sym (names_none word bytes least most same none)
