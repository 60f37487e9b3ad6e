use Rattle.std.proofs.Common.{arith}
use Rattle.bit_slice.proofs.WindowLemmas.{sums_none, sums_more, sums_all}
use Rattle.bit_slice.proofs.window.sums_of.Goals as goal

pub loop-k-init : goal.loop-k-init
loop-k-init c = sums_none c.args.sums.now c.args.block.now

pub loop-k-preserved : goal.loop-k-preserved
loop-k-preserved c = sums_more c.args.sums.now c.args.block.now c.loop-k.more c.loop-k.k c.loop-k.invariant
    (omega arith)

pub returns : goal.returns
returns c = sums_all c.args.sums.now c.args.block.now c.loop-k.more c.loop-k.k c.loop-k.invariant (omega arith)
