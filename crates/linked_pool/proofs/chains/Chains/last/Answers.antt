use Rattle.std.proofs.Common.{sym, ap, ◌∙◌, get_or, refl}
use Rattle.linked_pool.proofs.ViewLemmas.{inside, last_is}
use Rattle.linked_pool.proofs.chains.Chains.last.Goals as goal

pub read-requires : goal.read-requires
read-requires c =
    let lt =
    inside c.args.self.now c.self.inside.next.items c.self.inside.heads.items c.self.inside.sizes.items
    c.self.inside.sizes.items c.args.place (sym c.self.view_is) c.self.invariant.heads_too refl c.requires.place in
    rw (c.as_slice-tails.ensures.value, c.self.invariant.tails_too) lt

pub returns : goal.returns
returns c =
    let lt =
    inside c.args.self.now c.self.inside.next.items c.self.inside.heads.items c.self.inside.sizes.items
    c.self.inside.sizes.items c.args.place (sym c.self.view_is) c.self.invariant.heads_too refl c.requires.place in
    c.read.ensures ∙ ap (λ xs. get_or xs c.args.place 0) c.as_slice-tails.ensures.value
    ∙ last_is c.args.self.now c.self.inside.next.items c.self.inside.heads.items c.self.inside.tails.items
    c.self.inside.sizes.items c.args.place (sym c.self.view_is) c.self.invariant.heads_too
    (c.self.invariant.last c.args.place lt) c.requires.place c.requires.some
