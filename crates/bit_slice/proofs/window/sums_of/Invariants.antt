use Rattle.bit_slice.proofs.WindowLemmas.{SumsSo}
use Rattle.bit_slice.proofs.window.sums_of.Given as goal

abbrev pub invariant-loop-k : goal.invariant-loop-k
invariant-loop-k l = SumsSo l.sums l.block l.more l.k
