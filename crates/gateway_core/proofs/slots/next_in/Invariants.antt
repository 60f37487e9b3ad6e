use Rattle.std.proofs.Common.{ℕ, ◌<◌}
use Rattle.gateway_core.specs.Slots.{HasCome}
use Rattle.gateway_core.proofs.slots.next_in.Given as goal

abbrev pub invariant-loop-plp : goal.invariant-loop-plp
invariant-loop-plp l = (other : ℕ) → other < l.plp → HasCome l.plan l.gateway l.held l.turn other
