use Rattle.std.proofs.Common.{◌≡◌, ◌≤◌, take}
use Rattle.std.specs.Prelude.{sum, sum_by}
use Rattle.std.specs.List.{range_with_len}
use Rattle.open_group.specs.RecordBytes.{own_count}
use Rattle.open_group.proofs.sizes.block_count.Given as goal

abbrev pub invariant-loop-plp : goal.invariant-loop-plp
invariant-loop-plp l = record {
  count : l.count ≡ sum_by (own_count l.plan l.number l.shape) (range_with_len 0 l.plp);
  most : l.count ≤ sum (take l.plp l.shape.counts);
}
