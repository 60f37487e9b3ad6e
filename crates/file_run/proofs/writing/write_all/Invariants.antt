use Rattle.std.proofs.Common.{◌≤◌, ◌-◌, take, length}
use Rattle.ports.specs.Desk.{SameCounts}
use Rattle.file_run.specs.Writing.{Appends}
use Rattle.file_run.proofs.writing.write_all.Given as goal

abbrev pub invariant-loop-done : goal.invariant-loop-done
invariant-loop-done g l = record {
  within : l.done ≤ length l.piece;
  front : Appends (g.D.Desk.state l.initial.desk) (g.D.Desk.state l.desk) l.out (take l.done l.piece);
  counts : SameCounts (g.D.Desk.state l.initial.desk) (g.D.Desk.state l.desk);
}

abbrev pub decreases-loop-done : goal.decreases-loop-done
decreases-loop-done g l = length l.piece - l.done
