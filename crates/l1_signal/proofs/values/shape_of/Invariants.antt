use Rattle.std.proofs.Common.{◌≡◌, ℕ, ◌<◌, length, get_or}
use Rattle.l1_signal.specs.L1Dynamic.{no_dyn_plp}
use Rattle.l1_signal.proofs.values.shape_of.Given as goal

abbrev pub invariant-loop-place : goal.invariant-loop-place
invariant-loop-place l = record {
  counts_len : length l.out.counts ≡ length l.dynamic.plps;
  starts_len : length l.out.starts ≡ length l.dynamic.plps;
  counts : (k : ℕ) → k < l.place → get_or l.out.counts k 0 ≡ (get_or l.dynamic.plps k no_dyn_plp).plp_num_blocks;
  starts : (k : ℕ) → k < l.place → get_or l.out.starts k 0 ≡ (get_or l.dynamic.plps k no_dyn_plp).plp_start;
  interval : l.out.interval ≡ l.dynamic.sub_slice_interval;
  type2_start : l.out.type2_start ≡ l.dynamic.type_2_start;
}
