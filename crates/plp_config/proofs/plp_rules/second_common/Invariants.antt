use Rattle.plp_config.specs.FirstFailure.{HoldsBelow}
use Rattle.plp_config.specs.Rules.{PlaceHolds, OneCommon}
use Rattle.plp_config.proofs.plp_rules.second_common.Given as goal

abbrev pub invariant-loop-place : goal.invariant-loop-place
invariant-loop-place l = HoldsBelow (PlaceHolds OneCommon l.config) l.place
