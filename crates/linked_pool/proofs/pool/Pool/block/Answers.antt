use Rattle.linked_pool.specs.Pool.{list_at}
use Rattle.linked_pool.proofs.NextLemmas.{next_ends}
use Rattle.linked_pool.proofs.pool.Pool.block.Goals as goal

pub returns-clause-none : goal.returns-clause-none
returns-clause-none c =
    next_ends c.next.result c.blocks-2.result _ (list_at c.args.self.now c.args.list) c.args.place c.next.ensures.none
    c.next.ensures.some c.blocks-2.ensures
