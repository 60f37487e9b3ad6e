use Rattle.std.proofs.Common.{◌≡◌, drop}
use Rattle.trial_run.specs.Counts.{stand_in}
use Rattle.trial_run.proofs.counts.stands_in.Given as goal

abbrev pub invariant-loop-other : goal.invariant-loop-other
invariant-loop-other l = stand_in (drop l.other-index l.others) l.bytes ≡ stand_in l.others l.bytes
