use Rattle.std.proofs.Common.{◌≡◌}
use Rattle.mended_frames.specs.Heads.{least_head, head_at}
use Rattle.mended_frames.proofs.heads.least_number.Given as goal

abbrev pub invariant-loop-i : goal.invariant-loop-i
invariant-loop-i g l = l.least ≡ least_head l.i (head_at l.feeds)
