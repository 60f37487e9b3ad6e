use Rattle.std.proofs.Common.{◌≡◌, ◌+◌, ◌*◌, length, take}
use Rattle.site_frame.specs.Words.{words}
use Rattle.site_frame.proofs.again.put_again.Given as goal

abbrev pub invariant-loop-k : goal.invariant-loop-k
invariant-loop-k l = record {
  len : length l.out ≡ length l.fn.out;
  words : take (4 * (l.before + l.width + l.k)) l.out ≡ words l.plan l.shape l.frame_idx l.address
      (l.before + l.width + l.k);
}
