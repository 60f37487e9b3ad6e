use Rattle.std.proofs.Common.{◌+◌, ◌*◌, arith}
use Rattle.plp_config.specs.Capacity.{block_bytes}
use Rattle.open_group.specs.RecordBytes.{own_count}
use Rattle.open_group.proofs.SizeLemmas.{sum_more}
use Rattle.open_group.proofs.sizes.blocks_len.Goals as goal

pub loop-plp-preserved : goal.loop-plp-preserved
loop-plp-preserved c = record {
  sum =
      sum_more (λ plp. own_count c.args.plan.now c.args.number c.args.shape.now plp *
      (4 + block_bytes c.args.plan.now plp)) c.loop-plp.plp
      c.loop-plp.len c.plp_len-len.result c.loop-plp.invariant.sum
      c.plp_len-len.ensures.value;
  most = omega (arith, c.loop-plp.invariant.most, c.plp_len-len.ensures.most);
}
