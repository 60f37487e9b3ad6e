use Rattle.std.proofs.Common.{sym}
use Rattle.linked_pool.proofs.ViewLemmas.{inside, enough}
use Rattle.linked_pool.proofs.chains.Chains.move_front.Goals as goal

pub link-requires-clause-from : goal.link-requires-clause-from
link-requires-clause-from c =
    inside c.args.self.now c.self.inside.next.items c.self.inside.heads.items c.self.inside.sizes.items
    c.as_mut_slice-4.result.now c.args.from (sym c.self.view_is) c.self.invariant.heads_too
    c.as_mut_slice-4.ensures.value
    c.requires.from

pub link-requires-clause-to : goal.link-requires-clause-to
link-requires-clause-to c =
    inside c.args.self.now c.self.inside.next.items c.self.inside.heads.items c.self.inside.sizes.items
    c.as_mut_slice-4.result.now c.args.to (sym c.self.view_is) c.self.invariant.heads_too c.as_mut_slice-4.ensures.value
    c.requires.to

pub link-requires-clause-enough : goal.link-requires-clause-enough
link-requires-clause-enough c =
    enough c.args.self.now c.self.inside.next.items c.self.inside.heads.items c.self.inside.sizes.items
    c.as_mut_slice-4.result.now c.args.from c.args.count (sym c.self.view_is) c.self.invariant.heads_too
    c.as_mut_slice-4.ensures.value c.requires.from c.requires.enough
