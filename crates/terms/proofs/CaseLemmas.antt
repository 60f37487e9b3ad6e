-- Cases on a test.
use Rattle.std.proofs.Common.{◌≡◌, Bool, true, false, refl, sym}

pub bool_cases : {P : Type 0} (b : Bool) → (b ≡ true → P) → (b ≡ false → P) → P
bool_cases true yes_case no_case = yes_case refl
bool_cases false yes_case no_case = no_case refl

-- two tests of which each holds if the other does
pub same_test : (a b : Bool) → (a ≡ true → b ≡ true) → (b ≡ true → a ≡ true) → a ≡ b
same_test true b f g = sym (f refl)
same_test false true f g = g refl
same_test false false f g = refl
