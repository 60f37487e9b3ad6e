use Rattle.std.proofs.Common.{sym, ap, ◌∙◌, get_or}
use Rattle.std.proofs.lemmas.List.{get_or_past}
use Rattle.linked_pool.proofs.ViewLemmas.{after_is}
use Rattle.linked_pool.proofs.chains.Chains.after.Goals as goal

pub returns-then-chunk-next : goal.returns-then-chunk-next
returns-then-chunk-next c = λ i k a b e.
    let past = get_or_past c.as_slice-next.result.now c.args.chunk 0 c.if-chunk-next.true in
    sym past ∙ ap (λ xs. get_or xs c.args.chunk 0) c.as_slice-next.ensures.value
    ∙ after_is c.args.self.now c.self.inside.next.items c.self.inside.heads.items c.self.inside.sizes.items c.args.chunk
    (sym c.self.view_is) c.self.invariant.heads_too i k a b e

pub returns : goal.returns
returns c = λ i k a b e. ap (λ xs. get_or xs c.args.chunk 0) c.as_slice-next.ensures.value
    ∙ after_is c.args.self.now c.self.inside.next.items c.self.inside.heads.items c.self.inside.sizes.items c.args.chunk
    (sym c.self.view_is) c.self.invariant.heads_too i k a b e
