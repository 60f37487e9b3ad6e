use Rattle.std.proofs.Common.{◌<◌, ◌-◌, get_or, refl, arith}
use Rattle.linked_pool.proofs.WalkLemmas.{total-two}
use Rattle.linked_pool.proofs.MoveLemmas.{moves, linked_empty, linked_full, in_range}
use Rattle.linked_pool.proofs.chains.link.Goals as goal
use Rattle.linked_pool.proofs.chains.link.Goals.{then-sizes-to-eq0, else-sizes-to-eq0}

pub last_of-last-requires-clause-inside : goal.last_of-last-requires-clause-inside
last_of-last-requires-clause-inside c =
    λ i h. in_range c.args.next.now c.args.heads.now c.args.tails.now c.args.sizes.now c.args.from i c.requires.sound
    c.requires.from (omega arith)

pub bounds-next-last : goal.bounds-next-last
bounds-next-last c =
    let there = in_range c.args.next.now c.args.heads.now c.args.tails.now c.args.sizes.now c.args.from
    (c.args.count - 1) c.requires.sound c.requires.from (omega arith) in
    rw c.last_of-last.ensures there

pub bounds-next-end : goal.bounds-next-end
bounds-next-end c =
    let some : 0 < get_or c.args.sizes.now c.args.to 0 = omega arith in
    let there = in_range c.args.next.now c.args.heads.now c.args.tails.now c.args.sizes.now c.args.to
    (get_or c.args.sizes.now c.args.to 0 - 1) c.requires.sound c.requires.to (omega arith) in
    rw (c.requires.sound.last c.args.to c.requires.to some) there

pub overflow_add-more : goal.overflow_add-more
overflow_add-more c =
    let two = total-two c.args.sizes.now c.args.from c.args.to c.requires.from c.requires.to c.requires.apart in
    omega (arith, two, c.requires.sound.all, c.requires.sound.few, c.requires.enough)

pub returns : goal.returns
returns c =
    moves c.args.next.now c.args.heads.now c.args.tails.now c.args.sizes.now c.if-sizes-to-eq0.next c.args.from
    c.args.to
    c.args.count _ c.last_of-last.result c.if-sizes-to-eq0.front _ _
    c.requires.sound c.requires.from c.requires.to c.requires.apart c.requires.some c.requires.enough
    refl c.last_of-last.ensures
    refl refl
    (λ r. elim c.if-sizes-to-eq0.branch [
      | then-sizes-to-eq0 w ↦
          rw (w.next-is, w.front-is)
          (linked_empty c.args.next.now c.args.heads.now c.args.tails.now c.args.sizes.now c.args.from
          c.args.to c.args.count _
          c.last_of-last.result (omega arith) c.requires.some c.last_of-last.ensures)
      | else-sizes-to-eq0 w ↦
          rw (w.next-is, w.front-is)
          (linked_full c.args.next.now c.args.heads.now c.args.tails.now c.args.sizes.now c.args.from
          c.args.to c.args.count _
          c.last_of-last.result _ c.requires.sound c.requires.from c.requires.to c.requires.apart
          (omega arith) c.requires.some c.requires.enough r c.last_of-last.ensures
          (c.requires.sound.last c.args.to c.requires.to (omega arith)))
    ])
