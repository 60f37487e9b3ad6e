use Rattle.std.proofs.Common.{ap}
use Rattle.gateway_core.specs.InputSoFar.{at_end}
use Rattle.region_swap.specs.RegionFed.{early_in}
use Rattle.gateway_core.specs.IsFed.{Bounds}
use Rattle.region_swap.proofs.RegionLemmas.{serves_on, supplies_end, same_lists}
use Rattle.region_swap.proofs.region.Region.end.Goals as goal

pub returns-clause-stands : goal.returns-clause-stands
returns-clause-stands c = λ t h.
    let r = c.args.self.now in
    let p = c.args.plan.now in
    supplies_end r.input c.end.new.self r.blocks r.sends r.next r.count p c.args.list t
    (c.end.ensures.fed p c.args.list t (early_in r.sends r.blocks c.args.list)) h

pub returns-clause-of : goal.returns-clause-of
returns-clause-of c = serves_on (same_lists _ _) (λ short. short) (ap (λ (b : Bounds). b.most) c.end.ensures.bounds)
    c.requires.of.few at_end (returns-clause-stands c) c.requires.of
