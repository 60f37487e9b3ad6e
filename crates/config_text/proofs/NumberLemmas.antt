-- What a word in decimal is parsed as.
use Rattle.std.proofs.Common.{◌≡◌, ℕ, ◌<◌, ◌^◌, ◌∙◌, sym, List, Ok, Err}
use Rattle.std.specs.Prelude.{Result}
use Rattle.std.specs.Fmt.{decimal}
use Rattle.std.specs.Str.{IsUtf8}
use Rattle.std.specs.Str.Parse.{ParsesUnsigned}
use Rattle.std.proofs.lemmas.Fmt.{parse-decimal, decimal_injective, IsAscii-decimal}
use Rattle.std.proofs.lemmas.Str.{IsUtf8-from_ascii}

pub parsed_is : {E : Type 0} (n number : ℕ) (word text : List ℕ) (r : Result ℕ E) → n < 2 ^ 64 → text ≡ word
    → word ≡ decimal n
    → ParsesUnsigned 64 10 text r → r ≡ Ok number
    → number ≡ n
parsed_is n number word text r fits same spelled parses is =
    let gives : r ≡ Ok n = parse-decimal 64 n text r fits fits (same ∙ spelled) parses in
    cc

pub parsed_fails : {E : Type 0} (n : ℕ) (e : E) (word text : List ℕ) (r : Result ℕ E) → n < 2 ^ 64 → text ≡ word
    → word ≡ decimal n → ParsesUnsigned 64 10 text r → r ≡ Err e
    → ⊥
parsed_fails n e word text r fits same spelled parses is =
    let gives : r ≡ Ok n = parse-decimal 64 n text r fits fits (same ∙ spelled) parses in
    cc

-- a decimal is text
pub decimal_is_utf8 : (n : ℕ) (word : List ℕ) → n < 2 ^ 64 → word ≡ decimal n → IsUtf8 word
decimal_is_utf8 n word fits spelled = rw spelled (IsUtf8-from_ascii (decimal n) (IsAscii-decimal n fits))

-- a word is the decimal of one number
pub same_number : (word : List ℕ) (m n : ℕ) → word ≡ decimal m → word ≡ decimal n → m < 2 ^ 64 → n < 2 ^ 64 → m ≡ n
same_number word m n a b small fits = decimal_injective m n small fits (sym a ∙ b)
