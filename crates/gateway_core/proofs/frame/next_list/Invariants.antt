use Rattle.std.proofs.Common.{◌≡◌, ◌<◌, ◌≤◌, ℕ, []}
use Rattle.gateway_core.specs.Lists.{own_in}
use Rattle.gateway_core.proofs.frame.next_list.Given as goal

abbrev pub invariant-loop-list : goal.invariant-loop-list
invariant-loop-list l = (j : ℕ) → l.«from» ≤ j → j < l.list → own_in l.plan l.frame l.pool j ≡ []
