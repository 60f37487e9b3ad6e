use Rattle.std.proofs.Common.{ℕ}
use Rattle.bit_slice.specs.PrbsBlocks.{Runs}
use Rattle.bit_slice.proofs.PrbsLemmas.{RunsOn}
use Rattle.bit_slice.proofs.prbs_blocks.next_block.Given as goal

abbrev pub invariant-loop-k : goal.invariant-loop-k
invariant-loop-k l = (from : ℕ) → Runs l.fn.bytes from → RunsOn l.bytes from l.k

abbrev pub invariant-loop-k-2 : goal.invariant-loop-k-2
invariant-loop-k-2 l = (from : ℕ) → Runs l.fn.bytes from → RunsOn l.bytes from l.k
