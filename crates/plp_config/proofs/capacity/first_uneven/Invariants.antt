use Rattle.plp_config.specs.Capacity.{PlaceFits, EvenParts}
use Rattle.plp_config.specs.FirstFailure.{HoldsBelow}
use Rattle.plp_config.proofs.capacity.first_uneven.Given as goal

abbrev pub invariant-loop-plp : goal.invariant-loop-plp
invariant-loop-plp l = HoldsBelow (PlaceFits EvenParts l.config) l.plp
