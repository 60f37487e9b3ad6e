use Rattle.std.proofs.Common.{◌≡◌, ◌<◌, ℕ, true, length}
use Rattle.std.specs.Prelude.{nat_lt}
use Rattle.linked_pool.specs.Pool.{list_at}
use Rattle.frame_weave.proofs.slots.Slots.is_full.Given as goal

abbrev pub invariant-loop-place : goal.invariant-loop-place
invariant-loop-place l = (k : ℕ) → k < l.place → nat_lt 0 (length (list_at l.self.pool k)) ≡ true
