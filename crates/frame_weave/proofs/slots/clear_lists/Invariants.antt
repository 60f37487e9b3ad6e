use Rattle.std.proofs.Common.{◌≡◌, ◌<◌, ℕ, [], length}
use Rattle.linked_pool.specs.Pool.{list_at}
use Rattle.frame_weave.proofs.slots.clear_lists.Given as goal

abbrev pub invariant-loop-list : goal.invariant-loop-list
invariant-loop-list l = record {
  lists : length l.pool.lists ≡ l.lists;
  none : (list : ℕ) → list < l.list → list_at l.pool list ≡ [];
  opened : l.pool.opened ≡ l.initial.pool.opened;
}
