use Rattle.plp_config.specs.FirstFailure.{HoldsBelow}
use Rattle.plp_config.specs.Rules.{PlaceHolds, CommonRate}
use Rattle.plp_config.proofs.plp_rules.wrong_common_rate.Given as goal

abbrev pub invariant-loop-place : goal.invariant-loop-place
invariant-loop-place l = HoldsBelow (PlaceHolds CommonRate l.config) l.place
