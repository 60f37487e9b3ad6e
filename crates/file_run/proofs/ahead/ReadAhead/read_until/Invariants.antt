use Rattle.std.proofs.Common.{◌≡◌, false, ◌<◌, ◌≤◌, ◌-◌, ◌+◌, ℕ, length}
use Rattle.ports.specs.Desk.{SameCounts, has_run_out}
use Rattle.file_run.specs.Reading.{given_of, longest_file, ReadsOn, TakesNone}
use Rattle.file_run.proofs.ahead.ReadAhead.read_until.Given as goal

abbrev pub invariant-loop-self : goal.invariant-loop-self
invariant-loop-self g l = record {
  reads : ReadsOn (g.D.Desk.state l.initial.desk) (g.D.Desk.state l.desk) l.initial.self l.self;
  none : TakesNone (g.D.Desk.state l.initial.desk) (g.D.Desk.state l.desk) l.initial.self l.self;
  limit : (limit : ℕ) → given_of l.initial.self ≤ limit → l.initial.self.taken + l.most ≤ limit
      → given_of l.self ≤ limit;
  short : given_of l.self < longest_file;
  going : has_run_out (g.D.Desk.state l.desk) l.initial.self.handle ≡ false;
  counts : SameCounts (g.D.Desk.state l.initial.desk) (g.D.Desk.state l.desk);
}

abbrev pub decreases-loop-self : goal.decreases-loop-self
decreases-loop-self g l = l.least - length l.self.waiting
