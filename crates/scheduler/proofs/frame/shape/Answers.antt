use Rattle.std.proofs.Common.{◌≡◌, ◌∙◌, ◌<◌, ap, sym, refl, arith, length}
use Rattle.std.specs.Prelude.{slice_index}
use Rattle.scheduler.specs.Shape.{FrameShape, with_plp, shape_of}
use Rattle.scheduler.proofs.ShapeLemmas.{until-more, until-all}
use Rattle.scheduler.proofs.frame.shape.Goals as goal

pub loop-plp-preserved : goal.loop-plp-preserved
loop-plp-preserved c =
    let counts = rw c.set_type2.ensures at c.len-plp-end.ensures.counts in
    let starts = rw c.set_type2.ensures at c.len-plp-end.ensures.starts in
    let same : length c.args.counts.now ≡ length c.args.out.now.counts = c.requires.counts.whole
    ∙ sym c.requires.plps in
    let inside : c.loop-plp.plp < length c.args.counts.now = omega (arith, counts, same) in
    record {
      next = c.behind-next.ensures;
      so_far = c.set.ensures
          ∙ ap (λ (s : FrameShape). with_plp s c.loop-plp.plp (slice_index c.args.counts.now c.loop-plp.plp)
          c.start_of.result)
          c.loop-plp.invariant.so_far
          ∙ until-more c.args.plan.now c.args.counts.now c.args.out.now c.loop-plp.plp
          (slice_index c.args.counts.now c.loop-plp.plp) c.start_of.result inside same
          (sym starts ∙ counts) refl c.start_of.ensures;
    }

pub returns-clause-shape : goal.returns-clause-shape
returns-clause-shape c =
    let counts = rw c.set_type2.ensures at c.len-plp-end.ensures.counts in
    let starts = rw c.set_type2.ensures at c.len-plp-end.ensures.starts in
    let same : length c.args.counts.now ≡ length c.args.out.now.counts = c.requires.counts.whole
    ∙ sym c.requires.plps in
    c.loop-plp.invariant.so_far
    ∙ until-all c.args.plan.now c.args.counts.now c.args.out.now c.loop-plp.plp c.requires.counts.whole same (sym starts
    ∙ counts)
    (omega (arith, counts, same))

pub returns-clause-counts : goal.returns-clause-counts
unfolding shape_of
returns-clause-counts c =
    let counts = rw c.set_type2.ensures at c.len-plp-end.ensures.counts in
    let starts = rw c.set_type2.ensures at c.len-plp-end.ensures.starts in
    let same : length c.args.counts.now ≡ length c.args.out.now.counts = c.requires.counts.whole
    ∙ sym c.requires.plps in
    let all = c.loop-plp.invariant.so_far
    ∙ until-all c.args.plan.now c.args.counts.now c.args.out.now c.loop-plp.plp c.requires.counts.whole same (sym starts
    ∙ counts)
    (omega (arith, counts, same)) in
    ap (λ (s : FrameShape). s.counts) all
