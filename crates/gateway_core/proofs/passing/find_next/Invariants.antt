use Rattle.gateway_core.specs.Works.{Moves, AreSettled}
use Rattle.gateway_core.proofs.passing.find_next.Given as goal

abbrev pub invariant-loop-turn : goal.invariant-loop-turn
invariant-loop-turn l = record {
  moves : Moves l.plan l.initial.gateway l.gateway l.initial.held l.held;
  settled : AreSettled l.plan l.gateway l.turn;
}
