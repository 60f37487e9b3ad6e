use Rattle.scheduler.specs.Steps.{AreBefore}
use Rattle.scheduler.proofs.frame.all_cells.Given as goal

abbrev pub invariant-loop-plp : goal.invariant-loop-plp
invariant-loop-plp l = AreBefore l.plan l.counts l.plp l.all
