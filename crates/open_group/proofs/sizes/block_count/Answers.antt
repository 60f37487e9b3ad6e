use Rattle.std.proofs.Common.{arith}
use Rattle.std.proofs.lemmas.List.Sums.{sum_by_more}
use Rattle.open_group.specs.RecordBytes.{own_count}
use Rattle.open_group.proofs.SizeLemmas.{sum_more}
use Rattle.open_group.proofs.sizes.block_count.Goals as goal

pub loop-plp-preserved : goal.loop-plp-preserved
loop-plp-preserved c =
    let more = sum_by_more (λ x. x) c.args.shape.now.counts c.loop-plp.plp 0 (omega arith) in
    record {
      count =
          sum_more (own_count c.args.plan.now c.args.number c.args.shape.now) c.loop-plp.plp c.loop-plp.count
          c.own_count-count.result c.loop-plp.invariant.count c.own_count-count.ensures.value;
      most = omega (arith, more, c.own_count-count.ensures.most, c.loop-plp.invariant.most);
    }
