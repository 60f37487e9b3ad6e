use Rattle.std.proofs.Common.{◌≡◌, ◌/◌, sym, ◌∙◌, arith}
use Rattle.scheduler.specs.Shape.{slice_of}
use Rattle.scheduler.proofs.ShapeLemmas.{next_type1, next_type2}
use Rattle.scheduler.proofs.frame.behind.Goals as goal

pub overflow_add-result : goal.overflow_add-result
overflow_add-result c =
    let slice : c.cells_of-cells.result / c.from.result ≡ slice_of c.args.plan.now c.args.counts.now c.args.plp = cc in
    let next = next_type2 c.args.plan.now c.args.counts.now c.args.plp (c.cells_of-cells.result / c.from.result)
    c.args.next
    c.is_type2.ensures.plan c.requires.counts c.requires.plp c.requires.next slice
    (sym c.is_type2.ensures.value ∙ c.if-is_type2.true) in
    omega (arith, next.fits)

pub returns-then-is_type2 : goal.returns-then-is_type2
returns-then-is_type2 c =
    let slice : c.cells_of-cells.result / c.from.result ≡ slice_of c.args.plan.now c.args.counts.now c.args.plp = cc in
    (next_type2 c.args.plan.now c.args.counts.now c.args.plp (c.cells_of-cells.result / c.from.result) c.args.next
    c.is_type2.ensures.plan c.requires.counts c.requires.plp c.requires.next slice
    (sym c.is_type2.ensures.value ∙ c.if-is_type2.true)).are

pub overflow_add-result-else-is_type2 : goal.overflow_add-result-else-is_type2
overflow_add-result-else-is_type2 c =
    let next = next_type1 c.args.plan.now c.args.counts.now c.args.plp c.cells_of-cells.result c.args.next
    c.is_type2.ensures.plan
    c.requires.counts c.requires.plp c.requires.next c.cells_of-cells.ensures.value
    (sym c.is_type2.ensures.value ∙ c.if-is_type2.false) in
    omega (arith, next.fits)

pub returns-else-is_type2 : goal.returns-else-is_type2
returns-else-is_type2 c =
    (next_type1 c.args.plan.now c.args.counts.now c.args.plp c.cells_of-cells.result c.args.next c.is_type2.ensures.plan
    c.requires.counts c.requires.plp c.requires.next c.cells_of-cells.ensures.value
    (sym c.is_type2.ensures.value ∙ c.if-is_type2.false)).are
