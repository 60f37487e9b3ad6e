-- The first test of the capacity that fails, from the answers of the tests in their order.
use Rattle.std.proofs.Common.{◌≡◌, ℕ, zero, suc, ◌+◌, ◌<◌, ◌≤◌, Option, Some, None, MatchOption, refl, sym, ap, subst}
use Rattle.std.proofs.Common.{◌∙◌, arith}
use Rattle.std.proofs.Common.{inl, inr}
use Rattle.std.proofs.lemmas.Bool.{cases_eq}
use Rattle.std.specs.Option.{option_or}
use Rattle.plp_config.specs.Capacity.{Test, Throughput, CellCount, EvenParts, CellAddresses, RecordLength, test_number}
use Rattle.plp_config.specs.Capacity.{TestHolds}
use Rattle.plp_config.specs.Capacity.{TestsBelow, AllTests, Lacks}
use Rattle.plp_config.specs.CapacityTests.{AnswersTest}
use Rattle.plp_config.specs.declared.config.Config.{Config}
use Rattle.plp_config.specs.declared.capacity.CapacityFault.{CapacityFault}

-- the numbers go from 1 to 5
pub test_number-range : (test : Test) → (1 ≤ test_number test) × (test_number test < 6)
test_number-range Throughput = (omega arith, omega arith)
test_number-range CellCount = (omega arith, omega arith)
test_number-range EvenParts = (omega arith, omega arith)
test_number-range CellAddresses = (omega arith, omega arith)
test_number-range RecordLength = (omega arith, omega arith)

-- the test with a number
pub test_at : ℕ → Test
test_at zero = Throughput
test_at (suc zero) = Throughput
test_at (suc (suc zero)) = CellCount
test_at (suc (suc (suc zero))) = EvenParts
test_at (suc (suc (suc (suc zero)))) = CellAddresses
test_at _ = RecordLength

pub test_at-test_number : (test : Test) → test_at (test_number test) ≡ test
unfolding test_at
test_at-test_number Throughput = refl
test_at-test_number CellCount = refl
test_at-test_number EvenParts = refl
test_at-test_number CellAddresses = refl
test_at-test_number RecordLength = refl

-- the tests have all numbers from 1 to 5
pub test_number-test_at : (place : ℕ) → place < 5 → test_number (test_at (place + 1)) ≡ place + 1
unfolding test_at
test_number-test_at zero lt = refl
test_number-test_at (suc zero) lt = refl
test_number-test_at (suc (suc zero)) lt = refl
test_number-test_at (suc (suc (suc zero))) lt = refl
test_number-test_at (suc (suc (suc (suc zero)))) lt = refl
test_number-test_at (suc (suc (suc (suc (suc n))))) lt = absurd (omega arith)

-- two tests with one number are one
pub same_test : (a b : Test) → test_number a ≡ test_number b → a ≡ b
same_test a b e = sym (test_at-test_number a) ∙ ap test_at e ∙ test_at-test_number b

-- one test more holds
TestsBelow-more : (c : Config) (test : Test) → TestsBelow (test_number test) c → TestHolds test c
    → TestsBelow (test_number test + 1) c
TestsBelow-more c test below here other lt =
    elim (cases_eq (test_number other) (test_number test)) [
      | inl same ↦ subst (λ t. TestHolds t c) (sym (same_test other test same)) here
      | inr differ ↦ below other (omega arith)
    ]

-- the tests below a number were tried: they hold, or there is a refusal
abbrev pub Tried : ℕ → Config → Option CapacityFault → Type 0
Tried number c fault = MatchOption fault (TestsBelow number c) (Lacks c)

-- no test was tried
pub Tried-none : (c : Config) → Tried 1 c None
Tried-none c test lt = absurd (omega (arith, test_number-range test))

-- the first of two answers
Tried-or : (c : Config) (test : Test) (fault answer : Option CapacityFault)
    → Tried (test_number test) c fault → AnswersTest test c answer
    → Tried (test_number test + 1) c (option_or fault answer)
Tried-or c test (Some fault) answer tried answers = tried
Tried-or c test None None tried holds = TestsBelow-more c test tried holds
Tried-or c test None (Some fault) tried lacks = lacks tried

-- one test more was tried
pub Tried-more : (c : Config) (test : Test) (fault answer all : Option CapacityFault)
    → Tried (test_number test) c fault → AnswersTest test c answer → all ≡ option_or fault answer
    → Tried (test_number test + 1) c all
Tried-more c test fault answer all tried answers is = rw is (Tried-or c test fault answer tried answers)

-- every test was tried
pub Tried-all : (c : Config) (fault : Option CapacityFault) → Tried 6 c fault → MatchOption fault (AllTests c) (Lacks c)
Tried-all c None below = λ test. below test (test_number-range test).1
Tried-all c (Some fault) lacks = lacks
