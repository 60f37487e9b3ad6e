use Rattle.std.proofs.Common.{◌*◌}
use Rattle.bit_slice.specs.PrbsBlocks.{PrbsBlocksStandsFor}
use Rattle.bb_frame.proofs.ScrambleLemmas.{AddedTo}
use Rattle.bb_frame.proofs.scrambling.scramble.Given as goal

abbrev pub invariant-loop-k : goal.invariant-loop-k
invariant-loop-k l = PrbsBlocksStandsFor l.sequence (120 * l.k) × AddedTo l.fn.bytes l.bytes (120 * l.k)
