use Rattle.std.proofs.Common.{◌<◌, length, refl, arith}
use Rattle.region_swap.proofs.RegionLemmas.{serves_on, supplies_leave, cleared_others, cleared_short}
use Rattle.region_swap.proofs.region.Region.leave.Goals as goal

pub returns-clause-stands : goal.returns-clause-stands
returns-clause-stands c = λ t h.
    let r = c.args.self.now in
    supplies_leave r.input r.blocks c.clear.new.self r.sends r.next r.count c.args.plan.now c.args.list
    t c.clear.ensures.cleared
    (omega (arith, c.requires.of.place, c.requires.of.lists)) c.if-not-self.false h

pub returns-clause-of : goal.returns-clause-of
returns-clause-of c =
    let r = c.args.self.now in
    let lt : c.args.list < length r.blocks.lists = omega (arith, c.requires.of.place, c.requires.of.lists) in
    serves_on (rw c.clear.ensures.cleared (cleared_others r.blocks c.args.list))
    (λ short. rw c.clear.ensures.cleared (cleared_short r.blocks c.args.list lt short))
    refl c.requires.of.few (λ t. t) (returns-clause-stands c) c.requires.of
