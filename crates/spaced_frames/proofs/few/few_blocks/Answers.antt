use Rattle.std.proofs.Common.{length, ap, arith}
use Rattle.plp_config.specs.declared.config.Config.{Config}
use Rattle.spaced_frames.specs.StandsFor.{content_of}
use Rattle.spaced_frames.proofs.BoundLemmas.{few_bodies}
use Rattle.spaced_frames.proofs.few.few_blocks.Goals as goal

pub returns : goal.returns
returns c =
    let k : Config = c.args.plan.now in
    let e = c.requires.plps in
    let few = c.rules_law.ensures.ranges.plps.1 in
    let end = c.len-list-end.ensures in
    let same = ap (λ (x : Config). length x.plps) c.config.ensures.value in
    λ n. few_bodies k n (content_of c.args.frame.now) (omega (arith, few, e))
    (λ i l. c.loop-list.invariant i (omega (arith, l, e, end, same, few, c.loop-list-test.false)))
