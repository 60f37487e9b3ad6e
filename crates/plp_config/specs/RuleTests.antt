-- How the code tries the rules of the network. No public clause cites this module.
use Rattle.std.specs.Prelude.{◌-◌, ◌<◌, ◌↔◌, Bool, true, List, IsTrue, slice_index_or}
use Rattle.plp_config.specs.Rules.{Rule, rule_number, RuleHolds}
use Rattle.plp_config.specs.declared.config.Config.{Config}

-- the tests of the rules 1 to 9, in their order: each tells whether its rule holds
abbrev pub TellsRules : Config → List Bool → Type 0
TellsRules c tests = (rule : Rule) → rule_number rule < 10 → IsTrue (slice_index_or tests (rule_number rule - 1) true)
    ↔ RuleHolds rule c
