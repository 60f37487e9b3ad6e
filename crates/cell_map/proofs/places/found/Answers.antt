use Rattle.std.proofs.Common.{arith, ◌≡◌, ◌<◌, ℕ, ◌∙◌, length}
use Rattle.plp_config.specs.Rules.{PlpCount}
use Rattle.cell_map.specs.Address.{IsCarried, address_of}
use Rattle.cell_map.proofs.FrameLemmas.{counted, few_blocks}
use Rattle.cell_map.proofs.MeetingLemmas.{more_below}
use Rattle.cell_map.proofs.places.found.Goals as goal

pub overflow_add-before : goal.overflow_add-before
overflow_add-before c =
    let plps = c.place_of.ensures.plan.rules PlpCount in
    omega (arith, c.loop-plp.invariant.small, c.len-plp-end.ensures.counts, c.requires.plps, plps)

pub overflow_add-result : goal.overflow_add-result
overflow_add-result c =
    let plps = c.place_of.ensures.plan.rules PlpCount in
    let row : c.loop-plp.plp < length c.args.plan.now.plps = omega (
      arith,
      c.len-plp-end.ensures.counts,
      c.requires.plps,
    ) in
    omega (
      arith,
      c.loop-plp.invariant.small,
      c.len-plp-end.ensures.counts,
      c.requires.plps,
      plps,
      c.in-Some.ensures.some.there.there.sent,
      few_blocks c.args.plan.now c.args.shape.now c.loop-plp.plp c.place_of.ensures.plan
          c.requires.passes row,
    )

pub loop-plp-preserved : goal.loop-plp-preserved
loop-plp-preserved c =
    let inside : c.loop-plp.plp < length c.args.shape.now.counts = omega (arith, c.len-plp-end.ensures.counts) in
    let row : c.loop-plp.plp < length c.args.plan.now.plps = omega (arith, inside, c.requires.plps) in
    record {
      before =
          counted c.args.shape.now.counts c.loop-plp.plp c.loop-plp.before c.from-before.result inside
          c.loop-plp.invariant.before
          (c.from-before.ensures ∙ c.count.ensures);
      small = omega (
        arith,
        c.loop-plp.invariant.small,
        c.from-before.ensures,
        c.count.ensures,
        few_blocks c.args.plan.now c.args.shape.now c.loop-plp.plp c.place_of.ensures.plan c.requires.passes row,
      );
      none = λ k b q lt. more_below (λ (j : ℕ). (b q : ℕ) → IsCarried c.args.plan.now c.args.shape.now
          c.args.frame_idx j b q
          → ¬ (address_of c.args.plan.now c.args.shape.now c.args.frame_idx j b q ≡ c.args.address)) 0 c.loop-plp.plp
          (λ j x y. (λ b q. c.loop-plp.invariant.none j b q y)) c.in-None.ensures.none k (omega arith) lt b q;
    }
