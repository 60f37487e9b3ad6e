use Rattle.linked_pool.proofs.PoolLemmas.{whole_in}
use Rattle.linked_pool.proofs.pool.Pool.chunks_free.Goals as goal

pub returns-clause-whole : goal.returns-clause-whole
returns-clause-whole c = whole_in c.self.inside c.args.self.now c.self.view_is c.self.invariant

pub returns-then-count-spare-clause-whole : goal.returns-then-count-spare-clause-whole
returns-then-count-spare-clause-whole c = whole_in c.self.inside c.args.self.now c.self.view_is c.self.invariant
