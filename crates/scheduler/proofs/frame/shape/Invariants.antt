use Rattle.std.proofs.Common.{◌≡◌}
use Rattle.scheduler.specs.Steps.{AreNext, shape_until}
use Rattle.scheduler.proofs.frame.shape.Given as goal

abbrev pub invariant-loop-plp : goal.invariant-loop-plp
invariant-loop-plp l = record {
  next : AreNext l.plan l.counts l.plp l.next;
  so_far : l.out ≡ shape_until l.plan l.counts l.fn.out l.plp;
}
