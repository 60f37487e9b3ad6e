use Rattle.std.proofs.Common.{ap}
use Rattle.gateway_core.specs.InputSoFar.{with_packet}
use Rattle.gateway_core.specs.IsFed.{Bounds}
use Rattle.region_swap.proofs.RegionLemmas.{has_place, serves_on, supplied, supplies_offer}
use Rattle.region_swap.proofs.region.Region.offer.Goals as goal

pub offer-requires-clause-ready : goal.offer-requires-clause-ready
offer-requires-clause-ready c = supplied c.requires.free c.requires.of

pub returns-clause-stands : goal.returns-clause-stands
returns-clause-stands c = λ t h.
    let r = c.args.self.now in
    let p = c.args.plan.now in
    supplies_offer r.input c.offer.new.self r.blocks c.offer.new.pool r.sends r.next r.count p c.args.list
    t c.args.packet.now
    c.requires.free c.requires.wanted
    (c.offer.ensures.fed p c.args.list t (has_place c.requires.of)) h

pub returns-clause-of : goal.returns-clause-of
returns-clause-of c = serves_on c.offer.ensures.others c.offer.ensures.short
    (ap (λ (b : Bounds). b.most) c.offer.ensures.bounds) c.requires.of.few
    (λ t. with_packet t c.args.packet.now) (returns-clause-stands c) c.requires.of
