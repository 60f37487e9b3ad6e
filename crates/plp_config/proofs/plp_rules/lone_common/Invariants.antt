use Rattle.plp_config.specs.FirstFailure.{HoldsBelow}
use Rattle.plp_config.specs.Rules.{PlaceHolds, CommonShared}
use Rattle.plp_config.proofs.plp_rules.lone_common.Given as goal

abbrev pub invariant-loop-place : goal.invariant-loop-place
invariant-loop-place l = HoldsBelow (PlaceHolds CommonShared l.config) l.place
