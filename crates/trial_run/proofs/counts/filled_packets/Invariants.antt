use Rattle.std.proofs.Common.{◌≡◌, ◌≤◌}
use Rattle.trial_run.specs.Counts.{filled_of_first}
use Rattle.trial_run.proofs.counts.filled_packets.Given as goal

abbrev pub invariant-loop-number : goal.invariant-loop-number
invariant-loop-number l = (l.count ≡ filled_of_first l.bytes l.number) × (l.count ≤ l.number)
