use Rattle.std.proofs.Common.{◌≡◌, ◌<◌, ◌-◌, ◌+◌, [], true, false, get_or, refl, ap, sym, ◌∙◌, arith}
use Rattle.linked_pool.specs.Pool.{State, chunks_for}
use Rattle.linked_pool.specs.Blocks.{front_chunks}
use Rattle.linked_pool.proofs.BlockLemmas.{whole_law, empty_without, front, pop_law, chunk_inside, all-at}
use Rattle.linked_pool.proofs.EndsLemmas.{ends_popped}
use Rattle.linked_pool.proofs.PoolLemmas.{has_list, count_in, whole_in, same_count}
use Rattle.linked_pool.proofs.pool.Pool.pop.Goals as goal

pub count_at-count-requires : goal.count_at-count-requires
count_at-count-requires c =
    rw c.as_slice.ensures.value (has_list c.self.inside c.args.self.now c.args.list c.self.view_is c.self.invariant
    c.requires)

pub returns-then-count-eq0-clause-some : goal.returns-then-count-eq0-clause-some
returns-then-count-eq0-clause-some c =
    let e = c.count_at-count.ensures ∙ ap (λ xs. get_or xs c.args.list 0) c.as_slice.ensures.value
    ∙ count_in c.self.inside c.args.self.now c.args.list c.self.view_is c.self.invariant c.requires in
    let z = c.if-count-eq0.true in
    (λ n. absurd (let never : false ≡ true = n in cc), λ n. absurd (omega (arith, e, z, n)))

pub returns-then-count-eq0-clause-popped : goal.returns-then-count-eq0-clause-popped
returns-then-count-eq0-clause-popped c =
    let e = c.count_at-count.ensures ∙ ap (λ xs. get_or xs c.args.list 0) c.as_slice.ensures.value
    ∙ count_in c.self.inside c.args.self.now c.args.list c.self.view_is c.self.invariant c.requires in
    let z = c.if-count-eq0.true in
    empty_without c.args.self.now c.args.list (omega (arith, e, z))

pub first-first-requires-clause-some : goal.first-first-requires-clause-some
first-first-requires-clause-some c =
    let inside = has_list c.self.inside c.args.self.now c.args.list c.self.view_is c.self.invariant c.requires in
    let e = c.count_at-count.ensures ∙ ap (λ xs. get_or xs c.args.list 0) c.as_slice.ensures.value in
    let z = c.if-count-eq0.false in
    let some : 0 < get_or c.self.inside.counts.items c.args.list 0 = omega (arith, e, z) in
    let f = front c.self.inside.chains c.self.inside.chunks.items c.self.inside.lens.items c.self.inside.counts.items
    c.args.list
    c.self.invariant.0 inside some in
    omega (arith, f.fits)

pub count_at-requires : goal.count_at-requires
count_at-requires c =
    let inside = has_list c.self.inside c.args.self.now c.args.list c.self.view_is c.self.invariant c.requires in
    let e = c.count_at-count.ensures ∙ ap (λ xs. get_or xs c.args.list 0) c.as_slice.ensures.value in
    let z = c.if-count-eq0.false in
    let some : 0 < get_or c.self.inside.counts.items c.args.list 0 = omega (arith, e, z) in
    rw (c.as_slice-2.ensures.value, c.first-first.ensures)
    (chunk_inside c.self.inside.chains c.self.inside.chunks.items c.self.inside.lens.items c.self.inside.counts.items
    c.args.list c.self.invariant.0 inside some)

pub overflow_cast-size : goal.overflow_cast-size
overflow_cast-size c =
    let inside = has_list c.self.inside c.args.self.now c.args.list c.self.view_is c.self.invariant c.requires in
    let e = c.count_at-count.ensures ∙ ap (λ xs. get_or xs c.args.list 0) c.as_slice.ensures.value in
    let z = c.if-count-eq0.false in
    let some : 0 < get_or c.self.inside.counts.items c.args.list 0 = omega (arith, e, z) in
    let f = front c.self.inside.chains c.self.inside.chunks.items c.self.inside.lens.items c.self.inside.counts.items
    c.args.list
    c.self.invariant.0 inside some in
    let size : c.chunks_for-size.result ≡ front_chunks c.self.inside.lens.items
    (get_or c.self.inside.chains (c.args.list + 1) []) =
    c.chunks_for-size.ensures
    ∙ ap chunks_for (c.count_at.ensures ∙ ap (λ xs. get_or xs c.first-first.result 0) c.as_slice-2.ensures.value
    ∙ ap (λ n. get_or c.self.inside.lens.items n 0) c.first-first.ensures) in
    let all = all-at c.self.inside.chains (c.args.list + 1) (omega (arith, inside, c.self.invariant.0.lists)) in
    omega (arith, size, f.fits, all, c.self.invariant.0.all, c.self.invariant.0.few_chunks)

pub move_front-requires-clause-enough : goal.move_front-requires-clause-enough
move_front-requires-clause-enough c =
    let inside = has_list c.self.inside c.args.self.now c.args.list c.self.view_is c.self.invariant c.requires in
    let e = c.count_at-count.ensures ∙ ap (λ xs. get_or xs c.args.list 0) c.as_slice.ensures.value in
    let z = c.if-count-eq0.false in
    let some : 0 < get_or c.self.inside.counts.items c.args.list 0 = omega (arith, e, z) in
    let f = front c.self.inside.chains c.self.inside.chunks.items c.self.inside.lens.items c.self.inside.counts.items
    c.args.list
    c.self.invariant.0 inside some in
    let size : c.chunks_for-size.result ≡ front_chunks c.self.inside.lens.items
    (get_or c.self.inside.chains (c.args.list + 1) []) =
    c.chunks_for-size.ensures
    ∙ ap chunks_for (c.count_at.ensures ∙ ap (λ xs. get_or xs c.first-first.result 0) c.as_slice-2.ensures.value
    ∙ ap (λ n. get_or c.self.inside.lens.items n 0) c.first-first.ensures) in
    omega (arith, size, f.fits)

pub invariant_of-self : goal.invariant_of-self
invariant_of-self c =
    let inside = has_list c.self.inside c.args.self.now c.args.list c.self.view_is c.self.invariant c.requires in
    let e = c.count_at-count.ensures ∙ ap (λ xs. get_or xs c.args.list 0) c.as_slice.ensures.value in
    let z = c.if-count-eq0.false in
    let some : 0 < get_or c.self.inside.counts.items c.args.list 0 = omega (arith, e, z) in
    let size : c.chunks_for-size.result ≡ front_chunks c.self.inside.lens.items
    (get_or c.self.inside.chains (c.args.list + 1) []) =
    c.chunks_for-size.ensures
    ∙ ap chunks_for (c.count_at.ensures ∙ ap (λ xs. get_or xs c.first-first.result 0) c.as_slice-2.ensures.value
    ∙ ap (λ n. get_or c.self.inside.lens.items n 0) c.first-first.ensures) in (
      (pop_law c.args.self.now c.self.inside.chains c.self.inside.chunks.items c.move_front.new.self
          c.self.inside.lens.items
          c.self.inside.counts.items c.args.list c.chunks_for-size.result (c.count_at-count.result - 1)
          (sym c.self.view_is) c.self.invariant.0 c.requires some size (ap (λ n. n - 1) e) c.move_front.ensures).0,
      ends_popped c.self.inside.chains c.self.inside.chunks.items c.move_front.new.self c.self.inside.lens.items
          c.self.inside.lasts.items c.self.inside.counts.items c.args.list c.chunks_for-size.result
          (c.count_at-count.result - 1) c.self.invariant.0 c.self.invariant.1 inside some size
          (ap (λ n. n - 1) e) c.move_front.ensures,
    )

pub returns : goal.returns
returns c =
    let e = c.count_at-count.ensures ∙ ap (λ xs. get_or xs c.args.list 0) c.as_slice.ensures.value in
    let z = c.if-count-eq0.false in
    let some : 0 < get_or c.self.inside.counts.items c.args.list 0 = omega (arith, e, z) in
    let size : c.chunks_for-size.result ≡ front_chunks c.self.inside.lens.items
    (get_or c.self.inside.chains (c.args.list + 1) []) =
    c.chunks_for-size.ensures
    ∙ ap chunks_for (c.count_at.ensures ∙ ap (λ xs. get_or xs c.first-first.result 0) c.as_slice-2.ensures.value
    ∙ ap (λ n. get_or c.self.inside.lens.items n 0) c.first-first.ensures) in
    let p = (pop_law c.args.self.now c.self.inside.chains c.self.inside.chunks.items c.move_front.new.self
    c.self.inside.lens.items c.self.inside.counts.items c.args.list c.chunks_for-size.result
    (c.count_at-count.result - 1)
    (sym c.self.view_is) c.self.invariant.0 c.requires some size (ap (λ n. n - 1) e) c.move_front.ensures) in
    let n = count_in c.self.inside c.args.self.now c.args.list c.self.view_is c.self.invariant c.requires in
    record {
      some = (λ _. omega (arith, some, n), λ _. refl);
      popped = p.1;
      count = same_count c.args.self.now.lists _ c.args.list _ (ap (λ (s : State). s.lists) p.1);
      whole = whole_law _ _ _ _ _ refl p.0;
    }

pub returns-then-count-eq0-clause-whole : goal.returns-then-count-eq0-clause-whole
returns-then-count-eq0-clause-whole c = whole_in c.self.inside c.args.self.now c.self.view_is c.self.invariant
