use Rattle.std.proofs.Common.{sym, ◌∙◌, arith}
use Rattle.scheduler.proofs.ShapeLemmas.{more_type1, more_type2}
use Rattle.scheduler.proofs.frame.all_cells.Goals.{then-is_type2, else-is_type2}
use Rattle.scheduler.proofs.frame.all_cells.Goals as goal

pub overflow_add-all : goal.overflow_add-all
overflow_add-all c =
    let more =
    more_type2 c.args.plan.now c.args.counts.now c.loop-plp.plp c.cells_of-cells.result c.loop-plp.all
    c.is_type2.ensures.plan
    c.requires (omega (arith, c.requires.whole)) c.loop-plp.invariant c.cells_of-cells.ensures.value
    (sym c.is_type2.ensures.value ∙ c.if-is_type2.true) in
    omega (arith, more.fits)

pub overflow_add-all-else-is_type2 : goal.overflow_add-all-else-is_type2
overflow_add-all-else-is_type2 c =
    let more =
    more_type1 c.args.plan.now c.args.counts.now c.loop-plp.plp c.cells_of-cells.result c.loop-plp.all
    c.is_type2.ensures.plan
    c.requires (omega (arith, c.requires.whole)) c.loop-plp.invariant c.cells_of-cells.ensures.value
    (sym c.is_type2.ensures.value ∙ c.if-is_type2.false) in
    omega (arith, more.fits)

pub loop-plp-preserved : goal.loop-plp-preserved
loop-plp-preserved c =
    elim c.if-is_type2.branch [
      | then-is_type2 w ↦
          rw w.all-is
          (more_type2 c.args.plan.now c.args.counts.now c.loop-plp.plp c.cells_of-cells.result c.loop-plp.all
          c.is_type2.ensures.plan c.requires (omega (arith, c.requires.whole)) c.loop-plp.invariant
          c.cells_of-cells.ensures.value
          (sym c.is_type2.ensures.value ∙ w.if-is_type2.true)).are
      | else-is_type2 w ↦
          rw w.all-is
          (more_type1 c.args.plan.now c.args.counts.now c.loop-plp.plp c.cells_of-cells.result c.loop-plp.all
          c.is_type2.ensures.plan c.requires (omega (arith, c.requires.whole)) c.loop-plp.invariant
          c.cells_of-cells.ensures.value
          (sym c.is_type2.ensures.value ∙ w.if-is_type2.false)).are
    ]
