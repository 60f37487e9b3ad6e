use Rattle.std.proofs.Common.{ℕ, ◌<◌, ◌≤◌}
use Rattle.cell_map.specs.CellMap.{Shares}
use Rattle.cell_map.proofs.faults.partner.Given as goal

abbrev pub invariant-loop-k : goal.invariant-loop-k
invariant-loop-k l = (j : ℕ) → l.first ≤ j → j < l.k → ¬ (Shares l.plan l.shape l.first j)
