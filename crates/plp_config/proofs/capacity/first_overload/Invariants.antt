use Rattle.plp_config.specs.Capacity.{PlaceFits, Throughput}
use Rattle.plp_config.specs.FirstFailure.{HoldsBelow}
use Rattle.plp_config.proofs.capacity.first_overload.Given as goal

abbrev pub invariant-loop-plp : goal.invariant-loop-plp
invariant-loop-plp l = HoldsBelow (PlaceFits Throughput l.config) l.plp
