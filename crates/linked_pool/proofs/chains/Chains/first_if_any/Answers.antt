use Rattle.std.proofs.Common.{sym, ap, ◌∙◌, get_or}
use Rattle.linked_pool.proofs.ViewLemmas.{inside_heads, first_is}
use Rattle.linked_pool.proofs.chains.Chains.first_if_any.Goals as goal

pub read-requires : goal.read-requires
read-requires c = inside_heads c.args.self.now c.self.inside.next.items c.self.inside.heads.items
    c.self.inside.sizes.items
    c.as_slice-heads.result.now c.args.place (sym c.self.view_is) c.self.invariant.heads_too
    c.as_slice-heads.ensures.value
    c.requires

pub returns : goal.returns
returns c = λ some. c.read.ensures ∙ ap (λ xs. get_or xs c.args.place 0) c.as_slice-heads.ensures.value
    ∙ first_is c.args.self.now c.self.inside.next.items c.self.inside.heads.items c.self.inside.sizes.items c.args.place
    (sym c.self.view_is) c.self.invariant.heads_too c.requires some
