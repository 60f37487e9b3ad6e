use Rattle.gateway_core.specs.InputSoFar.{in_next}
use Rattle.region_swap.proofs.swapper.pass_region.Goals as goal

pub returns-then-begun-clause-stands : goal.returns-then-begun-clause-stands
returns-then-begun-clause-stands c = λ t h.
    c.leave.ensures.stands (in_next t) (rw c.if-begun.true at h)

pub returns-clause-stands : goal.returns-clause-stands
returns-clause-stands c = λ t h.
    c.leave-2.ensures.stands (in_next t) (c.advance.ensures.stands t (rw c.if-begun.false at h))
