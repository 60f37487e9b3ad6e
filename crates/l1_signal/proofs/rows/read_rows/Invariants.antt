use Rattle.std.proofs.Common.{◌≡◌, ◌-◌, take, length, replicate}
use Rattle.l1_signal.specs.Fields.{each_read, behind, HasGiven}
use Rattle.l1_signal.proofs.rows.read_rows.Given as goal

-- the PLPs so far in front of what those left give
abbrev pub invariant-loop-i : goal.invariant-loop-i
invariant-loop-i g l = record {
  read : each_read (replicate (length l.initial.rows) g.T.ReadPlp.reading) (g.R.BitSource.left l.initial.source)
      ≡ behind (take l.i l.rows)
      (each_read (replicate (length l.initial.rows - l.i) g.T.ReadPlp.reading) (g.R.BitSource.left l.source));
  given : HasGiven (g.R.BitSource.left l.initial.source) (g.R.BitSource.left l.source);
}
