use Rattle.plp_config.specs.FirstFailure.{HoldsBelow}
use Rattle.plp_config.specs.Rules.{IsCommonOf}
use Rattle.plp_config.proofs.plp_rules.has_common.Given as goal

abbrev pub invariant-loop-earlier : goal.invariant-loop-earlier
invariant-loop-earlier l = HoldsBelow (λ earlier. ¬ (IsCommonOf l.config l.group earlier)) l.earlier
