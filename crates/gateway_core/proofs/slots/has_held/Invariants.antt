use Rattle.std.proofs.Common.{◌≡◌, false}
use Rattle.gateway_core.specs.Slots.{any_held}
use Rattle.gateway_core.proofs.slots.has_held.Given as goal

abbrev pub invariant-loop-plp : goal.invariant-loop-plp
invariant-loop-plp l = any_held l.plan l.held l.turn l.plp ≡ false
