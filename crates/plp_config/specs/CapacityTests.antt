-- How the code tries the tests of the capacity. No public clause cites this module.
use Rattle.std.specs.Prelude.{Option, MatchOption}
use Rattle.plp_config.specs.Capacity.{Test, test_number, TestHolds, TestsBelow, Lacks}
use Rattle.plp_config.specs.declared.config.Config.{Config}
use Rattle.plp_config.specs.declared.capacity.CapacityFault.{CapacityFault}

-- the answer of one test: None if it holds, else the refusal, if the tests before hold
abbrev pub AnswersTest : Test → Config → Option CapacityFault → Type 0
AnswersTest test c answer = MatchOption answer (TestHolds test c) (λ fault. TestsBelow (test_number test) c
    → Lacks c fault)
