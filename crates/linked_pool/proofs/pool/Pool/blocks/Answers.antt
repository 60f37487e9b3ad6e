use Rattle.linked_pool.specs.Pool.{list_at}
use Rattle.linked_pool.proofs.NextLemmas.{next_leaves}
use Rattle.linked_pool.proofs.pool.Pool.blocks.Goals as goal

pub loop-p-preserved : goal.loop-p-preserved
loop-p-preserved c =
    next_leaves _ c.loop-p.blocks _ (list_at c.args.self.now c.args.list) c.loop-p._p c.next.ensures.none
    c.next.ensures.some
    c.loop-p.invariant
