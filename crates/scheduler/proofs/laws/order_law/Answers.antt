use Rattle.std.proofs.Common.{refl}
use Rattle.scheduler.specs.Shape.{shape_of}
use Rattle.scheduler.proofs.OrderLemmas.{stands_in_order}
use Rattle.scheduler.proofs.laws.order_law.Goals as goal

pub returns-clause-order : goal.returns-clause-order
returns-clause-order c = stands_in_order

pub returns-clause-counts : goal.returns-clause-counts
unfolding shape_of
returns-clause-counts c = λ config counts. refl
