use Rattle.std.proofs.Common.{arith}
use Rattle.bit_slice.proofs.PrbsLemmas.{runs_near, runs_round}
use Rattle.bit_slice.proofs.prbs_blocks.next_block.Goals as goal

pub loop-k-preserved : goal.loop-k-preserved
loop-k-preserved c = λ from h. runs_near c.loop-k.bytes from c.loop-k.k (c.loop-k.invariant from h) (omega arith)

pub loop-k-2-preserved : goal.loop-k-2-preserved
loop-k-2-preserved c = λ from h. runs_round c.loop-k-2.bytes from c.loop-k-2.k (c.loop-k-2.invariant from h)
    (omega arith)
    (omega arith)
