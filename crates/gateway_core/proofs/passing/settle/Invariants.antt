use Rattle.gateway_core.specs.StandsFor.{wants_of}
use Rattle.gateway_core.specs.Slots.{OthersWant}
use Rattle.gateway_core.specs.Works.{Moves}
use Rattle.gateway_core.proofs.passing.settle.Given as goal

abbrev pub invariant-loop-gateway : goal.invariant-loop-gateway
invariant-loop-gateway l = record {
  moves : Moves l.plan l.initial.gateway l.gateway l.initial.held l.held;
  others : OthersWant l.plan l.turn l.initial.gateway l.gateway;
}

abbrev pub decreases-loop-gateway : goal.decreases-loop-gateway
decreases-loop-gateway l = wants_of l.gateway l.turn
