use Rattle.std.proofs.Common.{◌≡◌, ◌+◌, ap, ◌∙◌, sym, get_or, arith}
use Rattle.linked_pool.specs.Pool.{list_at}
use Rattle.linked_pool.specs.Blocks.{walk_blocks}
use Rattle.linked_pool.proofs.PoolLemmas.{has_list}
use Rattle.linked_pool.proofs.NextLemmas.{walk_begins}
use Rattle.linked_pool.proofs.pool.Pool.all_blocks.Goals as goal

pub first_if_any-requires : goal.first_if_any-requires
first_if_any-requires c =
    let inside = has_list c.self.inside c.args.self.now c.args.list c.self.view_is c.self.invariant c.requires in
    omega (arith, inside, c.self.invariant.0.lists)

pub count_at-requires : goal.count_at-requires
count_at-requires c =
    rw c.as_slice-4.ensures.value (has_list c.self.inside c.args.self.now c.args.list c.self.view_is
    c.self.invariant c.requires)

pub invariant_of-result : goal.invariant_of-result
invariant_of-result c =
    let w = walk_begins c.args.self.now c.self.inside.chains c.self.inside.chunks.items c.self.inside.lens.items
    c.self.inside.lasts.items c.self.inside.counts.items c.args.list c.first_if_any.result c.count_at.result
    (sym c.self.view_is) c.self.invariant.0 c.self.invariant.1 c.requires
    (c.count_at.ensures ∙ ap (λ xs. get_or xs c.args.list 0) c.as_slice-4.ensures.value) c.first_if_any.ensures in
    rw (c.as_slice.ensures.value, c.as_slice-2.ensures.value, c.as_slice-3.ensures.value) w.0

pub returns : goal.returns
returns c =
    let w = walk_begins c.args.self.now c.self.inside.chains c.self.inside.chunks.items c.self.inside.lens.items
    c.self.inside.lasts.items c.self.inside.counts.items c.args.list c.first_if_any.result c.count_at.result
    (sym c.self.view_is) c.self.invariant.0 c.self.invariant.1 c.requires
    (c.count_at.ensures ∙ ap (λ xs. get_or xs c.args.list 0) c.as_slice-4.ensures.value) c.first_if_any.ensures in
    let blocks : walk_blocks c.self.inside.chains c.as_slice.result.now c.as_slice-2.result.now (c.args.list + 1) 0
    c.count_at.result ≡ list_at c.args.self.now c.args.list =
    rw (c.as_slice.ensures.value, c.as_slice-2.ensures.value) w.1 in
    blocks
