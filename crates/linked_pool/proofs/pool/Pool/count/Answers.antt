use Rattle.std.proofs.Common.{ap, ◌∙◌, get_or, arith}
use Rattle.linked_pool.proofs.BlockLemmas.{count_small}
use Rattle.linked_pool.proofs.PoolLemmas.{has_list, count_in}
use Rattle.linked_pool.proofs.pool.Pool.count.Goals as goal

pub count_at-requires : goal.count_at-requires
count_at-requires c =
    rw c.as_slice.ensures.value (has_list c.self.inside c.args.self.now c.args.list c.self.view_is c.self.invariant
    c.requires)

pub returns : goal.returns
returns c = c.count_at.ensures ∙ ap (λ xs. get_or xs c.args.list 0) c.as_slice.ensures.value
    ∙ count_in c.self.inside c.args.self.now c.args.list c.self.view_is c.self.invariant c.requires

pub overflow_cast-result : goal.overflow_cast-result
overflow_cast-result c =
    let inside = has_list c.self.inside c.args.self.now c.args.list c.self.view_is c.self.invariant c.requires in
    let small = count_small c.self.inside.chains c.self.inside.chunks.items c.self.inside.lens.items
    c.self.inside.counts.items
    c.args.list c.self.invariant.0 inside in
    let few = c.self.invariant.0.few_chunks in
    let e = c.count_at.ensures ∙ ap (λ xs. get_or xs c.args.list 0) c.as_slice.ensures.value in
    omega (arith, small, few, e)
