use Rattle.std.proofs.Common.{◌≡◌, take, drop}
use Rattle.l1_signal.specs.Fields.{values_of, behind, HasGiven}
use Rattle.l1_signal.specs.Places.{Narrow}
use Rattle.l1_signal.proofs.fields.read_fields.Given as goal

-- the values so far in front of what the fields left give
abbrev pub invariant-loop-i : goal.invariant-loop-i
invariant-loop-i g l = record {
  read : values_of l.table (g.R.BitSource.left l.initial.source)
      ≡ behind (take l.i l.out) (values_of (drop l.i l.table) (g.R.BitSource.left l.source));
  narrow : Narrow (drop l.i l.table);
  given : HasGiven (g.R.BitSource.left l.initial.source) (g.R.BitSource.left l.source);
}
