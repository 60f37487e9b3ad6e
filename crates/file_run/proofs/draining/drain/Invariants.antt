use Rattle.std.proofs.Common.{◌≡◌, ◌≤◌, ◌⊎◌, ℕ, []}
use Rattle.ports.specs.Desk.{SameCounts}
use Rattle.file_run.specs.Running.{Drains}
use Rattle.file_run.specs.declared.machine.Step.TheVariants.{Give}
use Rattle.file_run.proofs.draining.drain.Given as goal

abbrev pub invariant-loop-desk : goal.invariant-loop-desk
invariant-loop-desk g l = record {
  part : Drains g.M.Machine.Becomes l.out l.initial.machine l.machine (g.D.Desk.state l.initial.desk)
      (g.D.Desk.state l.desk) l.buffer;
  first : ((l.machine ≡ l.initial.machine) × (l.buffer ≡ [])) ⊎ (g.M.Machine.next l.initial.machine ≡ Give);
  reach : (other : ℕ) → g.M.Machine.reach l.initial.machine other ≤ g.M.Machine.reach l.machine other;
  counts : SameCounts (g.D.Desk.state l.initial.desk) (g.D.Desk.state l.desk);
}

abbrev pub decreases-loop-desk : goal.decreases-loop-desk
decreases-loop-desk g l = g.M.Machine.left l.machine
