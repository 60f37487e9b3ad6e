use Rattle.std.proofs.Common.{◌≡◌, None, replicate}
use Rattle.gateway_core.proofs.split_gateway.none_held.Given as goal

abbrev pub invariant-loop : goal.invariant-loop
invariant-loop l = l.held.items ≡ replicate l.counter None
