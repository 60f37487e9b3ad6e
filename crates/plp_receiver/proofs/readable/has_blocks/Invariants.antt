use Rattle.std.proofs.Common.{◌≡◌, ◌-◌, length}
use Rattle.std.specs.Cmp.Lexicographic.{pointwise}
use Rattle.frame_groups.specs.Readable.{has_size, block_sizes, coming}
use Rattle.plp_receiver.specs.Sizes.{sizes_from}
use Rattle.plp_receiver.proofs.readable.has_blocks.Given as goal

abbrev pub invariant-loop-plp : goal.invariant-loop-plp
invariant-loop-plp l = pointwise has_size l.blocks (block_sizes l.plan (coming l.plan l.number l.shape))
    ≡ pointwise has_size l.rest (sizes_from l.plan (coming l.plan l.number l.shape) l.plp (length l.plan.plps - l.plp))
