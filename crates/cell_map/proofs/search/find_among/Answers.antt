use Rattle.std.proofs.Common.{arith, ◌≡◌, ◌<◌, ℕ, ◌∙◌, length}
use Rattle.plp_config.specs.Rules.{PlpCount}
use Rattle.cell_map.specs.Address.{IsCarried, address_of}
use Rattle.cell_map.proofs.FrameLemmas.{counted, few_blocks}
use Rattle.cell_map.proofs.MeetingLemmas.{more_below}
use Rattle.cell_map.proofs.search.find_among.Goals as goal

pub run_of-requires-clause-small : goal.run_of-requires-clause-small
run_of-requires-clause-small c =
    omega (arith, c.loop-plp.invariant.small, c.requires.end, c.config-config.ensures.plan.rules PlpCount)

pub overflow_add-before : goal.overflow_add-before
overflow_add-before c = omega (arith, c.loop-plp.invariant.small, c.requires.end, c.run_of.ensures.plan.rules PlpCount)

pub loop-plp-preserved : goal.loop-plp-preserved
loop-plp-preserved c =
    let row : c.loop-plp.plp < length c.args.plan.now.plps = omega (arith, c.requires.end) in
    let inside : c.loop-plp.plp < length c.args.shape.now.counts = omega (arith, row, c.requires.plps) in
    record {
      before =
          counted c.args.shape.now.counts c.loop-plp.plp c.loop-plp.before c.from-before.result inside
          c.loop-plp.invariant.before
          (c.from-before.ensures ∙ c.count.ensures);
      small = omega (
        arith,
        c.loop-plp.invariant.small,
        c.from-before.ensures,
        c.count.ensures,
        few_blocks c.args.plan.now c.args.shape.now c.loop-plp.plp c.run_of.ensures.plan c.requires.passes row,
      );
      none = λ k b q low lt. more_below (λ (j : ℕ). (b q : ℕ) → IsCarried c.args.plan.now c.args.shape.now
          c.args.frame_idx j b q
          → ¬ (address_of c.args.plan.now c.args.shape.now c.args.frame_idx j b q
          ≡ c.args.address)) c.args.first.plp c.loop-plp.plp
          (λ j x y. (λ b q. c.loop-plp.invariant.none j b q x y)) c.in-None.ensures.none k low lt b q;
    }
