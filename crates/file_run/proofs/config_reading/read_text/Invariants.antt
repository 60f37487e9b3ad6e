use Rattle.std.proofs.Common.{◌≡◌, ◌≤◌, ◌-◌, false, length}
use Rattle.ports.specs.Desk.{SameCounts, has_run_out}
use Rattle.file_run.specs.Ahead.{ReadsAhead}
use Rattle.file_run.proofs.config_reading.read_text.Given as goal

-- the file was read on so far
abbrev pub invariant-loop-input : goal.invariant-loop-input
invariant-loop-input g l = record {
  reads : ReadsAhead (g.D.Desk.state l.initial.desk) (g.D.Desk.state l.desk) l.handle l.initial.input l.input;
  handles : length (g.D.Desk.state l.desk).opened ≡ length (g.D.Desk.state l.initial.desk).opened;
  calm : SameCounts (g.D.Desk.state l.initial.desk) (g.D.Desk.state l.desk);
  few : length l.input ≤ 65537;
  going : has_run_out (g.D.Desk.state l.desk) l.handle ≡ false;
}

abbrev pub decreases-loop-input : goal.decreases-loop-input
decreases-loop-input g l = 65537 - length l.input
