use Rattle.linked_pool.proofs.FitsLemmas.{plan_fits, next_fits}
use Rattle.linked_pool.proofs.laws.plan_fits_law.Goals as goal

pub returns-clause-all : goal.returns-clause-all
returns-clause-all c = plan_fits c.block_law.ensures.field c.block_law.ensures.chunks c.spread_law.ensures.blocks

pub returns-clause-next : goal.returns-clause-next
returns-clause-next c = next_fits c.block_law.ensures.field c.block_law.ensures.chunks c.spread_law.ensures.blocks
