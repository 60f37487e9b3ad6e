use Rattle.std.proofs.Common.{length}
use Rattle.trial_run.specs.Counts.{AreCut}
use Rattle.trial_run.proofs.counts.cut.Given as goal

abbrev pub invariant-loop-rest : goal.invariant-loop-rest
invariant-loop-rest l = AreCut l.fn.file l.pieces.items l.rest

abbrev pub decreases-loop-rest : goal.decreases-loop-rest
decreases-loop-rest l = length l.rest
