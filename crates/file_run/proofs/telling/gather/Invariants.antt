use Rattle.std.proofs.Common.{ℕ, List}
use Rattle.ports.specs.Desk.{State, SameCounts}
use Rattle.file_run.specs.Reading.{Reading}
use Rattle.file_run.specs.Steps.{HasCome}
use Rattle.file_run.specs.TellingOn.{Telling}
use Rattle.file_run.proofs.telling.gather.Given as goal

abbrev pub invariant-loop-desk : goal.invariant-loop-desk
invariant-loop-desk g l = record {
  telling : (begin : g.row.M.Denot) (start : State) (name : List ℕ) (r : Reading)
      → Telling (g.M.Machine.Becomes begin) g.M.Machine.next start (g.D.Desk.state l.initial.desk) name
      l.initial.machine r
      l.initial.page
      → Telling (g.M.Machine.Becomes begin) g.M.Machine.next start (g.D.Desk.state l.desk) name l.machine r l.page;
  came : HasCome g.M.Machine.Becomes l.machine;
  counts : SameCounts (g.D.Desk.state l.initial.desk) (g.D.Desk.state l.desk);
}

abbrev pub decreases-loop-desk : goal.decreases-loop-desk
decreases-loop-desk g l = g.M.Machine.left l.machine
