use Rattle.std.proofs.Common.{◌≤◌, ◌+◌, ap, ◌∙◌, arith, length}
use Rattle.std.proofs.lemmas.List.{length-set}
use Rattle.plp_config.specs.declared.config.Config.{Config}
use Rattle.frame_groups.specs.Readable.{coming}
use Rattle.frame_weave.proofs.SumLemmas.{start_more}
use Rattle.frame_weave.proofs.LayoutLemmas.{starts_more, need_more, need_small}
use Rattle.frame_weave.proofs.layout.Layout.lay.Goals as goal

pub loop-plp-preserved : goal.loop-plp-preserved
loop-plp-preserved c =
    let i = c.loop-plp.invariant in
    let network = c.args.plan.now in
    let counts = coming network c.args.number c.args.shape.now in
    let plp = c.loop-plp.plp in
    let own = c.from-count.ensures ∙ c.coming.ensures in
    let count = c.from.ensures ∙ own in
    let chunks = c.from-in-loop-plp.ensures ∙ c.block_chunks.ensures.value in
    let sized = i.sized in
    let few = i.few in
    let last = i.end in
    let all = start_more counts plp in
    let most : c.from.result ≤ 65535 = omega (arith, c.from.ensures, c.from-count.ensures, c.coming.auto) in
    record {
      starts = starts_more counts c.loop-plp.self.starts.items plp c.loop-plp.end c.from-count.result
          (omega (
            arith,
            sized,
            c.loop-plp-test.true,
            c.len-plp-end.ensures,
            c.loop-plp.auto.plp-end,
            ap (λ (k : Config). length k.plps) c.config.ensures.value,
          )) i.starts last own;
      end = omega (arith, last, all, own);
      need = need_more network counts plp c.loop-plp.need c.from.result c.from-in-loop-plp.result i.need count chunks;
      few = omega (arith, few, most, c.from.ensures);
      small = need_small plp c.loop-plp.need c.from.result c.from-in-loop-plp.result i.small most
          (omega (arith, c.from-in-loop-plp.ensures, c.block_chunks.ensures.most));
      sized = length-set c.loop-plp.self.starts.items (plp + 1) (c.loop-plp.end + c.from-count.result) ∙ sized;
    }
