use Rattle.std.proofs.Common.{ℕ, ◌<◌, ◌≤◌, length}
use Rattle.cell_map.specs.CellMap.{Shares, IsBeyond}
use Rattle.cell_map.proofs.faults.check.Given as goal

abbrev pub invariant-loop-plp : goal.invariant-loop-plp
invariant-loop-plp l = (k : ℕ) → k < l.plp → ¬ (IsBeyond l.plan l.shape k)

abbrev pub invariant-loop-first : goal.invariant-loop-first
invariant-loop-first l = (h k : ℕ) → h < l.first → h ≤ k → k < length l.plan.plps → ¬ (Shares l.plan l.shape h k)
