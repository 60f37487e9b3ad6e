use Rattle.std.proofs.Common.{◌≡◌, drop}
use Rattle.frame_writer.proofs.walk.skip.Given as goal

abbrev pub invariant-loop-block : goal.invariant-loop-block
invariant-loop-block l = l.blocks ≡ drop l._block l.fn.blocks
