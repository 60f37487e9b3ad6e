use Rattle.std.proofs.Common.{◌≡◌, drop}
use Rattle.plp_receiver.proofs.parts.skip_blocks.Given as goal

abbrev pub invariant-loop : goal.invariant-loop
invariant-loop l = l.rest ≡ drop l.counter l.fn.rest
