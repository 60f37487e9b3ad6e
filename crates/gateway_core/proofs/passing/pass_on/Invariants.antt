use Rattle.gateway_core.proofs.PassLemmas.{IsPassing}
use Rattle.gateway_core.proofs.passing.pass_on.Given as goal

abbrev pub invariant-loop-plp : goal.invariant-loop-plp
invariant-loop-plp l = IsPassing l.plan l.initial.gateway l.gateway l.initial.held l.held l.turn l.shared l.plp
