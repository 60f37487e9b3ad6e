use Rattle.std.proofs.Common.{◌≡◌, length, take}
use Rattle.region_swap.proofs.dynamic.copy_counts.Given as goal

abbrev pub invariant-loop-plp : goal.invariant-loop-plp
invariant-loop-plp l = record {
  len : length l.counts ≡ length l.shape.counts;
  same : take l.plp l.counts ≡ take l.plp l.shape.counts;
}
