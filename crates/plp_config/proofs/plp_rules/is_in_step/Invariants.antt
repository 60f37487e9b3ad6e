use Rattle.plp_config.specs.FirstFailure.{HoldsBelow}
use Rattle.plp_config.specs.Plps.{plp_at}
use Rattle.plp_config.specs.Rules.{IsCommonOf, IsInStep}
use Rattle.plp_config.proofs.plp_rules.is_in_step.Given as goal

abbrev pub invariant-loop-common : goal.invariant-loop-common
invariant-loop-common l = HoldsBelow (λ common. IsCommonOf l.config (plp_at l.config.plps l.place).group common
    → IsInStep (plp_at l.config.plps l.place) (plp_at l.config.plps common)) l.common
