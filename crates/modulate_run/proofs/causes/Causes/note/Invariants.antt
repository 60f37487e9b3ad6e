use Rattle.std.proofs.Common.{◌≡◌}
use Rattle.modulate_run.proofs.causes.Causes.note.Given as goal

abbrev pub invariant-loop-note : goal.invariant-loop-note
invariant-loop-note g l = g.D.Desk.state l.desk ≡ g.D.Desk.state l.initial.desk
