use Rattle.std.proofs.Common.{ℕ, ◌+◌, ◌<◌}
use Rattle.cell_map.specs.Runs.{LeavesFree, HasCell}
use Rattle.cell_map.proofs.search.dummies.Given as goal

abbrev pub invariant-loop-plp : goal.invariant-loop-plp
invariant-loop-plp l = record {
  free : (k : ℕ) → k < l.plp → LeavesFree l.plan l.shape l.frame_idx k l.address l.free;
  greatest : l.address + l.free < l.plan.cells → (plp : ℕ) × HasCell l.plan l.shape l.frame_idx plp
      (l.address + l.free);
}
