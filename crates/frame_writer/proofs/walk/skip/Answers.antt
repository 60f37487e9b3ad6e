use Rattle.linked_pool.proofs.NextLemmas.{next_leaves}
use Rattle.frame_writer.proofs.walk.skip.Goals as goal

pub loop-block-preserved : goal.loop-block-preserved
loop-block-preserved c =
    next_leaves _ c.loop-block.blocks _ c.args.blocks.now c.loop-block._block c.next.ensures.none c.next.ensures.some
    c.loop-block.invariant
