use Rattle.std.proofs.Common.{◌≢◌, ◌<◌, ℕ, List}
use Rattle.ports.specs.Desk.{State, SameCounts}
use Rattle.file_run.specs.Reading.{given_of, spare, longest_file}
use Rattle.file_run.specs.TellingOn.{Telling}
use Rattle.file_run.specs.declared.machine.Step.TheVariants.{Give}
use Rattle.file_run.proofs.telling.tell_on.Given as goal

abbrev pub invariant-loop-input : goal.invariant-loop-input
invariant-loop-input g l = record {
  telling : (begin : g.row.M.Denot) (start : State) (name : List ℕ)
      → Telling (g.M.Machine.Becomes begin) g.M.Machine.next start
      (g.D.Desk.state l.fn.desk) name l.fn.machine l.fn.reader l.fn.page
      → Telling (g.M.Machine.Becomes begin) g.M.Machine.next start (g.D.Desk.state l.desk) name l.machine
      l.reader l.page;
  counts : SameCounts (g.D.Desk.state l.fn.desk) (g.D.Desk.state l.desk);
  short : given_of l.reader < longest_file;
  dry : g.M.Machine.next l.machine ≢ Give;
}

abbrev pub decreases-loop-input : goal.decreases-loop-input
decreases-loop-input g l = spare l.reader
