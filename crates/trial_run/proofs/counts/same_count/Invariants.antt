use Rattle.std.proofs.Common.{◌≡◌, ◌≤◌, take}
use Rattle.trial_run.specs.Counts.{same_count}
use Rattle.trial_run.proofs.counts.same_count.Given as goal

abbrev pub invariant-loop-piece : goal.invariant-loop-piece
invariant-loop-piece l = (l.count ≡ same_count l.others (take l.piece-index l.pieces)) × (l.count ≤ l.piece-index)
