-- The first rule that fails, from the tests of the rules in their order.
use Rattle.std.proofs.Common.{◌≡◌, ℕ, zero, suc, ◌+◌, ◌-◌, ◌<◌, ◌≤◌, ◌↔◌, Bool, true, List, [], ◌∷◌, length, get_or}
use Rattle.std.proofs.Common.{Option, Some}
use Rattle.std.proofs.Common.{None, MatchOption, IsTrue, refl, sym, ap, subst, ◌∙◌, arith, inl, inr}
use Rattle.std.proofs.lemmas.Bool.{cases_eq, le-leb, lt-leb}
use Rattle.std.specs.Option.{option_or}
use Rattle.plp_config.specs.FirstFailure.{HoldsBelow, IsFirstFailure, FindsFailure}
use Rattle.plp_config.specs.Rules.{Rule, FrameDuration, SuperframeLength, LeastCells, StartTime, UtcOffset, PidRange}
use Rattle.plp_config.specs.Rules.{L1Fields}
use Rattle.plp_config.specs.Rules.{SubSlices, PlpCount, DistinctIds, TypeOrder, BlockLimit, InterleaverLength, BitRate}
use Rattle.plp_config.specs.Rules.{SpreadDivides, SpreadLength, EpochDuration, OneCommon, CommonRate, CommonShared}
use Rattle.plp_config.specs.Rules.{rule_number, PlaceHolds, RuleHolds, RulesBelow, AllRules, Refuses}
use Rattle.plp_config.specs.RuleTests.{TellsRules}
use Rattle.plp_config.specs.declared.config.Config.{Config}
use Rattle.plp_config.specs.declared.rules.ConfigFault.{ConfigFault}

-- the numbers go from 1 to 20
pub rule_number-range : (rule : Rule) → (1 ≤ rule_number rule) × (rule_number rule < 21)
rule_number-range FrameDuration = (omega arith, omega arith)
rule_number-range SuperframeLength = (omega arith, omega arith)
rule_number-range LeastCells = (omega arith, omega arith)
rule_number-range StartTime = (omega arith, omega arith)
rule_number-range UtcOffset = (omega arith, omega arith)
rule_number-range PidRange = (omega arith, omega arith)
rule_number-range L1Fields = (omega arith, omega arith)
rule_number-range SubSlices = (omega arith, omega arith)
rule_number-range PlpCount = (omega arith, omega arith)
rule_number-range DistinctIds = (omega arith, omega arith)
rule_number-range TypeOrder = (omega arith, omega arith)
rule_number-range BlockLimit = (omega arith, omega arith)
rule_number-range InterleaverLength = (omega arith, omega arith)
rule_number-range BitRate = (omega arith, omega arith)
rule_number-range SpreadDivides = (omega arith, omega arith)
rule_number-range SpreadLength = (omega arith, omega arith)
rule_number-range EpochDuration = (omega arith, omega arith)
rule_number-range OneCommon = (omega arith, omega arith)
rule_number-range CommonRate = (omega arith, omega arith)
rule_number-range CommonShared = (omega arith, omega arith)

-- the rule with a number
pub rule_at : ℕ → Rule
rule_at number = get_or (FrameDuration ∷ SuperframeLength ∷ LeastCells ∷ StartTime ∷ UtcOffset ∷ PidRange
    ∷ L1Fields ∷ SubSlices
    ∷ PlpCount ∷ DistinctIds ∷ TypeOrder ∷ BlockLimit ∷ InterleaverLength ∷ BitRate ∷ SpreadDivides ∷ SpreadLength
    ∷ EpochDuration ∷ OneCommon ∷ CommonRate ∷ CommonShared ∷ []) (number - 1) CommonShared

pub rule_at-rule_number : (rule : Rule) → rule_at (rule_number rule) ≡ rule
unfolding rule_at
rule_at-rule_number FrameDuration = refl
rule_at-rule_number SuperframeLength = refl
rule_at-rule_number LeastCells = refl
rule_at-rule_number StartTime = refl
rule_at-rule_number UtcOffset = refl
rule_at-rule_number PidRange = refl
rule_at-rule_number L1Fields = refl
rule_at-rule_number SubSlices = refl
rule_at-rule_number PlpCount = refl
rule_at-rule_number DistinctIds = refl
rule_at-rule_number TypeOrder = refl
rule_at-rule_number BlockLimit = refl
rule_at-rule_number InterleaverLength = refl
rule_at-rule_number BitRate = refl
rule_at-rule_number SpreadDivides = refl
rule_at-rule_number SpreadLength = refl
rule_at-rule_number EpochDuration = refl
rule_at-rule_number OneCommon = refl
rule_at-rule_number CommonRate = refl
rule_at-rule_number CommonShared = refl

-- the rules have all numbers from 1 to 20
pub rule_number-rule_at : (place : ℕ) → place < 20 → rule_number (rule_at (place + 1)) ≡ place + 1
unfolding rule_at
rule_number-rule_at zero lt = refl
rule_number-rule_at (suc zero) lt = refl
rule_number-rule_at (suc (suc zero)) lt = refl
rule_number-rule_at (suc (suc (suc zero))) lt = refl
rule_number-rule_at (suc (suc (suc (suc zero)))) lt = refl
rule_number-rule_at (suc (suc (suc (suc (suc zero))))) lt = refl
rule_number-rule_at (suc (suc (suc (suc (suc (suc zero)))))) lt = refl
rule_number-rule_at (suc (suc (suc (suc (suc (suc (suc zero))))))) lt = refl
rule_number-rule_at (suc (suc (suc (suc (suc (suc (suc (suc zero)))))))) lt = refl
rule_number-rule_at (suc (suc (suc (suc (suc (suc (suc (suc (suc zero))))))))) lt = refl
rule_number-rule_at (suc (suc (suc (suc (suc (suc (suc (suc (suc (suc zero)))))))))) lt = refl
rule_number-rule_at (suc (suc (suc (suc (suc (suc (suc (suc (suc (suc (suc zero))))))))))) lt = refl
rule_number-rule_at (suc (suc (suc (suc (suc (suc (suc (suc (suc (suc (suc (suc zero)))))))))))) lt = refl
rule_number-rule_at (suc (suc (suc (suc (suc (suc (suc (suc (suc (suc (suc (suc (suc zero))))))))))))) lt = refl
rule_number-rule_at (suc (suc (suc (suc (suc (suc (suc (suc (suc (suc (suc (suc (suc (suc zero)))))))))))))) lt = refl
rule_number-rule_at (suc (suc (suc (suc (suc (suc (suc (suc (suc (suc (suc (suc (suc (suc (suc zero)))))))))))))))
    lt = refl
rule_number-rule_at (suc (suc (suc (suc (suc (suc (suc (suc (suc (suc (suc (suc (suc (suc (suc (suc zero))))))))))))))))
    lt = refl
rule_number-rule_at (suc (suc
    (suc (suc (suc (suc (suc (suc (suc (suc (suc (suc (suc (suc (suc (suc (suc zero))))))))))))))))) lt = refl
rule_number-rule_at (suc (suc
    (suc (suc (suc (suc (suc (suc (suc (suc (suc (suc (suc (suc (suc (suc (suc (suc zero)))))))))))))))))) lt = refl
rule_number-rule_at (suc (suc
    (suc (suc (suc (suc (suc (suc (suc (suc (suc (suc (suc (suc (suc (suc (suc (suc (suc zero)))))))))))))))))))
    lt = refl
rule_number-rule_at (suc (suc
    (suc (suc (suc (suc (suc (suc (suc (suc (suc (suc (suc (suc (suc (suc (suc (suc (suc (suc n)))))))))))))))))))) lt =
    absurd (omega arith)

-- two rules with one number are one
pub same_rule : (a b : Rule) → rule_number a ≡ rule_number b → a ≡ b
same_rule a b e = sym (rule_at-rule_number a) ∙ ap rule_at e ∙ rule_at-rule_number b

-- one rule more holds
pub RulesBelow-more : (c : Config) (rule : Rule) → RulesBelow (rule_number rule) c → RuleHolds rule c
    → RulesBelow (rule_number rule + 1) c
RulesBelow-more c rule below here other lt =
    elim (cases_eq (rule_number other) (rule_number rule)) [
      | inl same ↦ subst (λ r. RuleHolds r c) (sym (same_rule other rule same)) here
      | inr differ ↦ below other (omega arith)
    ]

-- there is no rule 21
AllRules-from : (c : Config) → RulesBelow 21 c → AllRules c
AllRules-from c below rule = below rule (rule_number-range rule).1

-- the rules below a number were tried: they hold, or one is refused
abbrev pub Tried : ℕ → Config → Option ConfigFault → Type 0
Tried number c fault = MatchOption fault (RulesBelow number c) (Refuses c)

-- a rule of the PLPs is refused at the first place where it fails
pub refused_at : (c : Config) (rule : Rule) (place : ℕ)
    → 10 ≤ rule_number rule
    → (RuleHolds rule c → HoldsBelow (PlaceHolds rule c) (length c.plps))
    → RulesBelow (rule_number rule) c
    → IsFirstFailure (PlaceHolds rule c) (length c.plps) place
    → Refuses c (record { rule = rule_number rule; plp = Some place })
refused_at c rule place late whole below first = record {
  rule = rule;
  number = refl;
  fails = λ h. first.fails (whole h place first.inside);
  lower = below;
  place = rw (le-leb 10 (rule_number rule) late) first;
}

-- the first of two answers
Tried-or : (c : Config) (rule : Rule) (fault : Option ConfigFault) (place : Option ℕ) (other : Option ConfigFault)
    → 10 ≤ rule_number rule
    → (RuleHolds rule c → HoldsBelow (PlaceHolds rule c) (length c.plps))
    → (HoldsBelow (PlaceHolds rule c) (length c.plps) → RuleHolds rule c)
    → Tried (rule_number rule) c fault
    → FindsFailure (PlaceHolds rule c) (length c.plps) place
    → MatchOption place (other ≡ None) (λ p. p < 256 → other ≡ Some (record { rule = rule_number rule; plp = Some p }))
    → Tried (rule_number rule + 1) c (option_or fault other)
Tried-or c rule (Some e) place other late whole parts tried finds told = tried
Tried-or c rule None None other late whole parts tried finds told = rw told (RulesBelow-more c rule tried (parts finds))
Tried-or c rule None (Some p) other late whole parts tried finds told =
    let few : length c.plps ≤ 255 = (tried PlpCount (omega arith)).1 in
    rw (told (omega (arith, finds.inside))) (refused_at c rule p late whole tried finds)

-- one rule of the PLPs more was tried
pub Tried-more : (c : Config) (rule : Rule) (fault : Option ConfigFault) (place : Option ℕ)
    (other all : Option ConfigFault)
    → 10 ≤ rule_number rule
    → (RuleHolds rule c → HoldsBelow (PlaceHolds rule c) (length c.plps))
    → (HoldsBelow (PlaceHolds rule c) (length c.plps) → RuleHolds rule c)
    → Tried (rule_number rule) c fault
    → FindsFailure (PlaceHolds rule c) (length c.plps) place
    → MatchOption place (other ≡ None) (λ p. p < 256 → other ≡ Some (record { rule = rule_number rule; plp = Some p }))
    → all ≡ option_or fault other
    → Tried (rule_number rule + 1) c all
Tried-more c rule fault place other all late whole parts tried finds told is =
    rw is (Tried-or c rule fault place other late whole parts tried finds told)

-- every rule was tried
pub Tried-all : (c : Config) (fault : Option ConfigFault) → Tried 21 c fault
    → MatchOption fault (AllRules c) (Refuses c)
Tried-all c None below = AllRules-from c below
Tried-all c (Some fault) refuses = refuses

-- the nine tests, each with its rule
pub TellsRules-from : (c : Config) (duration superframe cells start utc pid l1 slices plps : Bool)
    → IsTrue duration ↔ RuleHolds FrameDuration c
    → IsTrue superframe ↔ RuleHolds SuperframeLength c
    → IsTrue cells ↔ RuleHolds LeastCells c
    → IsTrue start ↔ RuleHolds StartTime c
    → IsTrue utc ↔ RuleHolds UtcOffset c
    → IsTrue pid ↔ RuleHolds PidRange c
    → IsTrue l1 ↔ RuleHolds L1Fields c
    → IsTrue slices ↔ RuleHolds SubSlices c
    → IsTrue plps ↔ RuleHolds PlpCount c
    → TellsRules c (duration ∷ superframe ∷ cells ∷ start ∷ utc ∷ pid ∷ l1 ∷ slices ∷ plps ∷ [])
TellsRules-from _ _ _ _ _ _ _ _ _ _ h _ _ _ _ _ _ _ _ FrameDuration lt = h
TellsRules-from _ _ _ _ _ _ _ _ _ _ _ h _ _ _ _ _ _ _ SuperframeLength lt = h
TellsRules-from _ _ _ _ _ _ _ _ _ _ _ _ h _ _ _ _ _ _ LeastCells lt = h
TellsRules-from _ _ _ _ _ _ _ _ _ _ _ _ _ h _ _ _ _ _ StartTime lt = h
TellsRules-from _ _ _ _ _ _ _ _ _ _ _ _ _ _ h _ _ _ _ UtcOffset lt = h
TellsRules-from _ _ _ _ _ _ _ _ _ _ _ _ _ _ _ h _ _ _ PidRange lt = h
TellsRules-from _ _ _ _ _ _ _ _ _ _ _ _ _ _ _ _ h _ _ L1Fields lt = h
TellsRules-from _ _ _ _ _ _ _ _ _ _ _ _ _ _ _ _ _ h _ SubSlices lt = h
TellsRules-from _ _ _ _ _ _ _ _ _ _ _ _ _ _ _ _ _ _ h PlpCount lt = h
TellsRules-from _ _ _ _ _ _ _ _ _ _ _ _ _ _ _ _ _ _ _ DistinctIds lt = absurd (omega arith)
TellsRules-from _ _ _ _ _ _ _ _ _ _ _ _ _ _ _ _ _ _ _ TypeOrder lt = absurd (omega arith)
TellsRules-from _ _ _ _ _ _ _ _ _ _ _ _ _ _ _ _ _ _ _ BlockLimit lt = absurd (omega arith)
TellsRules-from _ _ _ _ _ _ _ _ _ _ _ _ _ _ _ _ _ _ _ InterleaverLength lt = absurd (omega arith)
TellsRules-from _ _ _ _ _ _ _ _ _ _ _ _ _ _ _ _ _ _ _ BitRate lt = absurd (omega arith)
TellsRules-from _ _ _ _ _ _ _ _ _ _ _ _ _ _ _ _ _ _ _ SpreadDivides lt = absurd (omega arith)
TellsRules-from _ _ _ _ _ _ _ _ _ _ _ _ _ _ _ _ _ _ _ SpreadLength lt = absurd (omega arith)
TellsRules-from _ _ _ _ _ _ _ _ _ _ _ _ _ _ _ _ _ _ _ EpochDuration lt = absurd (omega arith)
TellsRules-from _ _ _ _ _ _ _ _ _ _ _ _ _ _ _ _ _ _ _ OneCommon lt = absurd (omega arith)
TellsRules-from _ _ _ _ _ _ _ _ _ _ _ _ _ _ _ _ _ _ _ CommonRate lt = absurd (omega arith)
TellsRules-from _ _ _ _ _ _ _ _ _ _ _ _ _ _ _ _ _ _ _ CommonShared lt = absurd (omega arith)

-- if every test tells true, the rules 1 to 9 hold
pub RulesBelow-from_tests : (c : Config) (tests : List Bool) → length tests ≡ 9 → TellsRules c tests
    → HoldsBelow (λ place. IsTrue (get_or tests place true)) (length tests) → RulesBelow 10 c
RulesBelow-from_tests c tests nine tells all rule lt =
    (tells rule lt).0 (all (rule_number rule - 1) (omega (arith, rule_number-range rule)))

-- the first test that tells false gives the refusal
pub refused_by_test : (c : Config) (tests : List Bool) (place : ℕ) → length tests ≡ 9 → TellsRules c tests
    → IsFirstFailure (λ k. IsTrue (get_or tests k true)) (length tests) place
    → Refuses c (record { rule = place + 1; plp = None })
refused_by_test c tests place nine tells first =
    let number : rule_number (rule_at (place + 1)) ≡ place + 1 = rule_number-rule_at place
    (omega (arith, first.inside)) in
    let late : rule_number (rule_at (place + 1)) < 10 = omega (arith, number, first.inside) in
    let here : rule_number (rule_at (place + 1)) - 1 ≡ place = omega (arith, number) in
    record {
      rule = rule_at (place + 1);
      number = sym number;
      fails = λ holds. first.fails (ap (λ (k : ℕ). get_or tests k true) (sym here)
          ∙ (tells (rule_at (place + 1)) late).1 holds);
      lower = λ other lt. (tells other (omega (arith, late))).0
          (first.before (rule_number other - 1) (omega (arith, number, rule_number-range other)));
      place = rw (lt-leb 10 (rule_number (rule_at (place + 1))) late) refl;
    }
