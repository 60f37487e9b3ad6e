use Rattle.std.proofs.Common.{◌≡◌, ◌≤◌, ◌+◌, ◌*◌}
use Rattle.std.specs.Prelude.{sum_by}
use Rattle.std.specs.List.{range_with_len}
use Rattle.plp_config.specs.Capacity.{block_bytes}
use Rattle.open_group.specs.RecordBytes.{own_count}
use Rattle.open_group.specs.Sizes.{most_plp}
use Rattle.open_group.proofs.sizes.blocks_len.Given as goal

abbrev pub invariant-loop-plp : goal.invariant-loop-plp
invariant-loop-plp l = record {
  sum : l.len ≡ sum_by (λ plp. own_count l.plan l.number l.shape plp * (4 + block_bytes l.plan plp))
      (range_with_len 0 l.plp);
  most : l.len ≤ most_plp * l.plp;
}
