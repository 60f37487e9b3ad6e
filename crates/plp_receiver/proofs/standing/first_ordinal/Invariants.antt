use Rattle.std.proofs.Common.{◌≡◌, ◌≤◌, ◌*◌, take}
use Rattle.std.specs.Prelude.{sum}
use Rattle.plp_receiver.proofs.standing.first_ordinal.Given as goal

abbrev pub invariant-loop-before : goal.invariant-loop-before
invariant-loop-before l = (l.first ≡ sum (take l.before l.shape.counts)) × (l.first ≤ 65535 * l.before)
