use Rattle.std.proofs.Common.{◌≡◌, ◌≤◌, ◌*◌, take}
use Rattle.std.specs.Prelude.{sum}
use Rattle.frame_groups.specs.Readable.{coming}
use Rattle.plp_receiver.proofs.parts.first_place.Given as goal

abbrev pub invariant-loop-before : goal.invariant-loop-before
invariant-loop-before l = (l.first ≡ sum (take l.before (coming l.plan l.number l.shape)))
    × (l.first ≤ 65535 * l.before)
