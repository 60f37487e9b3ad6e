use Rattle.std.proofs.Common.{arith}
use Rattle.open_group.proofs.CountLemmas.{all_spare}
use Rattle.open_group.proofs.blocks.clear_pool.Goals as goal

pub returns-clause-spare : goal.returns-clause-spare
returns-clause-spare c =
    all_spare c.clear_lists.new.pool c.is_whole_law.ensures (λ k l. c.clear_lists.ensures.none k (omega (arith, l)))
