use Rattle.std.proofs.Common.{rules, ◌+◌, length, refl, ap, sym, ◌∙◌, arith}
use Rattle.std.specs.Vec.{with_items}
use Rattle.std.proofs.lemmas.List.{with_items_is, get_or_read}
use Rattle.terms.specs.Bits.{bytes_of}
use Rattle.linked_pool.specs.Pool.{State}
use Rattle.linked_pool.proofs.BlockLemmas.{whole_law, count_small}
use Rattle.linked_pool.proofs.FillLemmas.{first_free, append_done, bytes_len}
use Rattle.linked_pool.proofs.EndsLemmas.{ends_appended, moved_place}
use Rattle.linked_pool.proofs.PoolLemmas.{has_list, free_in, same_count}
use Rattle.linked_pool.proofs.pool.Pool.put_last.Goals as goal

pub fill-requires-clause-tight : goal.fill-requires-clause-tight
fill-requires-clause-tight c =
    omega (arith, c.requires.count, bytes_len c.args.block.now c.args.len c.requires.len)

pub index_mut-requires : goal.index_mut-requires
index_mut-requires c =
    let lt = first_free c.self.inside.chains c.self.inside.chunks.items c.self.inside.lens.items
    c.self.inside.counts.items
    c.first-first.result c.self.invariant.0
    (omega (arith, c.requires.count, free_in c.self.inside c.args.self.now c.args.count c.self.view_is c.requires.free))
    c.first-first.ensures in
    search rules

pub index_mut-requires-2 : goal.index_mut-requires-2
index_mut-requires-2 c =
    let lt = first_free c.self.inside.chains c.self.inside.chunks.items c.self.inside.lens.items
    c.self.inside.counts.items
    c.first-first.result c.self.invariant.0
    (omega (arith, c.requires.count, free_in c.self.inside c.args.self.now c.args.count c.self.view_is c.requires.free))
    c.first-first.ensures in
    let there = rw (← c.self.invariant.1.lasts_too) at lt in search rules

pub move_front-requires-clause-to : goal.move_front-requires-clause-to
move_front-requires-clause-to c =
    let inside = has_list c.self.inside c.args.self.now c.args.list c.self.view_is c.self.invariant c.requires.list in
    omega (arith, inside, c.self.invariant.0.lists)

pub index_mut-requires-3 : goal.index_mut-requires-3
index_mut-requires-3 c =
    let inside = has_list c.self.inside c.args.self.now c.args.list c.self.view_is c.self.invariant c.requires.list in
    search rules

pub overflow_add-index_mut : goal.overflow_add-index_mut
overflow_add-index_mut c =
    let inside = has_list c.self.inside c.args.self.now c.args.list c.self.view_is c.self.invariant c.requires.list in
    let small = count_small c.self.inside.chains c.self.inside.chunks.items c.self.inside.lens.items
    c.self.inside.counts.items
    c.args.list c.self.invariant.0 inside in
    let few = c.self.invariant.0.few_chunks in
    let now = get_or_read c.self.inside.counts.items c.args.list c.index_mut-3.result.now inside
    c.index_mut-3.ensures.value 0 in
    omega (arith, small, few, now)

pub invariant_of-self : goal.invariant_of-self
invariant_of-self c =
    let inside = has_list c.self.inside c.args.self.now c.args.list c.self.view_is c.self.invariant c.requires.list in
    let copied = with_items_is c.self.inside.chunks c.fill.new.chunks (c.fill.auto.chunks
    ∙ c.as_mut_slice.ensures.len) in (
      (append_done c.args.self.now c.self.inside.chains c.self.inside.chunks.items c.fill.new.chunks
          (with_items c.self.inside.chunks c.fill.new.chunks).items c.move_front.new.self c.self.inside.lens.items
          c.self.inside.counts.items c.args.list c.args.count (c.index_mut-3.result.now + 1) c.first-first.result
          c.args.len (bytes_of c.args.block.now) (sym c.self.view_is) c.self.invariant.0 c.requires.list
          (bytes_len c.args.block.now c.args.len c.requires.len) c.requires.count
          (free_in c.self.inside c.args.self.now c.args.count c.self.view_is c.requires.free)
          (c.fill.auto.chunks ∙ ap length c.as_mut_slice.ensures.value) copied
          (rw c.as_mut_slice.ensures.value at c.fill.ensures) c.first-first.ensures
          (ap (λ n. n + 1)
          (get_or_read c.self.inside.counts.items c.args.list c.index_mut-3.result.now inside
          c.index_mut-3.ensures.value 0))
          c.move_front.ensures).0,
      ends_appended c.self.inside.chains c.self.inside.chunks.items c.move_front.new.self c.self.inside.lens.items
          c.self.inside.lasts.items c.self.inside.counts.items c.args.list c.args.count
          (c.index_mut-3.result.now + 1) c.first-first.result c.last.result c.args.len c.self.invariant.0
          c.self.invariant.1 inside c.requires.count (free_in c.self.inside c.args.self.now c.args.count
          c.self.view_is c.requires.free)
          c.first-first.ensures
          (ap (λ n. n + 1)
          (get_or_read c.self.inside.counts.items c.args.list c.index_mut-3.result.now inside
          c.index_mut-3.ensures.value 0))
          c.move_front.ensures c.last.ensures,
    )

pub returns : goal.returns
returns c =
    let inside = has_list c.self.inside c.args.self.now c.args.list c.self.view_is c.self.invariant c.requires.list in
    let copied = with_items_is c.self.inside.chunks c.fill.new.chunks (c.fill.auto.chunks
    ∙ c.as_mut_slice.ensures.len) in
    let p = (append_done c.args.self.now c.self.inside.chains c.self.inside.chunks.items c.fill.new.chunks
    (with_items c.self.inside.chunks c.fill.new.chunks).items c.move_front.new.self c.self.inside.lens.items
    c.self.inside.counts.items c.args.list c.args.count (c.index_mut-3.result.now + 1) c.first-first.result
    c.args.len (bytes_of c.args.block.now) (sym c.self.view_is) c.self.invariant.0 c.requires.list
    (bytes_len c.args.block.now c.args.len c.requires.len) c.requires.count
    (free_in c.self.inside c.args.self.now c.args.count c.self.view_is c.requires.free)
    (c.fill.auto.chunks ∙ ap length c.as_mut_slice.ensures.value) copied (rw c.as_mut_slice.ensures.value
    at c.fill.ensures)
    c.first-first.ensures
    (ap (λ n. n + 1)
    (get_or_read c.self.inside.counts.items c.args.list c.index_mut-3.result.now inside c.index_mut-3.ensures.value 0))
    c.move_front.ensures) in
    record {
      appended = p.1;
      count = same_count c.args.self.now.lists _ c.args.list _ (ap (λ (s : State). s.lists) p.1);
      whole = whole_law _ _ _ _ _ refl p.0;
    }

pub last-requires-clause-place : goal.last-requires-clause-place
last-requires-clause-place c =
    let inside = has_list c.self.inside c.args.self.now c.args.list c.self.view_is c.self.invariant c.requires.list in
    (moved_place c.self.inside.chains c.move_front.new.self c.args.list c.args.count c.move_front.ensures
    (omega (arith, inside, c.self.invariant.0.lists)) (omega (arith, c.requires.count))
    (free_in c.self.inside c.args.self.now c.args.count c.self.view_is c.requires.free)).0

pub last-requires-clause-some : goal.last-requires-clause-some
last-requires-clause-some c =
    let inside = has_list c.self.inside c.args.self.now c.args.list c.self.view_is c.self.invariant c.requires.list in
    (moved_place c.self.inside.chains c.move_front.new.self c.args.list c.args.count c.move_front.ensures
    (omega (arith, inside, c.self.invariant.0.lists)) (omega (arith, c.requires.count))
    (free_in c.self.inside c.args.self.now c.args.count c.self.view_is c.requires.free)).1
