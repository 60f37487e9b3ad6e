use Rattle.linked_pool.proofs.PoolLemmas.{whole_in}
use Rattle.linked_pool.proofs.pool.Pool.is_whole_law.Goals as goal

pub returns : goal.returns
returns c = whole_in c.self.inside c.args.self.now c.self.view_is c.self.invariant
