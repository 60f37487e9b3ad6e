use Rattle.std.proofs.Common.{◌≡◌, drop}
use Rattle.linked_pool.specs.Pool.{list_at}
use Rattle.linked_pool.proofs.pool.Pool.blocks.Given as goal

abbrev pub invariant-loop-p : goal.invariant-loop-p
invariant-loop-p l = l.blocks ≡ drop l._p (list_at l.self l.list)
