use Rattle.std.proofs.Common.{sym, ap, ◌∙◌, get_or}
use Rattle.linked_pool.proofs.ViewLemmas.{inside, size_is}
use Rattle.linked_pool.proofs.chains.Chains.size.Goals as goal

pub read-requires : goal.read-requires
read-requires c =
    inside c.args.self.now c.self.inside.next.items c.self.inside.heads.items c.self.inside.sizes.items
    c.as_slice-sizes.result.now c.args.place (sym c.self.view_is) c.self.invariant.heads_too
    c.as_slice-sizes.ensures.value
    c.requires

pub returns : goal.returns
returns c = c.read.ensures ∙ ap (λ xs. get_or xs c.args.place 0) c.as_slice-sizes.ensures.value
    ∙ size_is c.args.self.now c.self.inside.next.items c.self.inside.heads.items c.self.inside.sizes.items c.args.place
    (sym c.self.view_is) c.self.invariant.heads_too c.requires
