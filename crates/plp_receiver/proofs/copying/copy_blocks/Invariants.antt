use Rattle.std.proofs.Common.{◌≡◌, ◌<◌, ℕ, length, drop}
use Rattle.plp_receiver.specs.Taken.{bytes_at}
use Rattle.plp_receiver.specs.Holds.{block_at}
use Rattle.plp_receiver.proofs.copying.copy_blocks.Given as goal

pub record Copied (l : goal.Live-loop-k) : Type 0 where
  pub rest : l.rest ≡ drop l.k l.fn.rest
  pub each : (j : ℕ) → j < l.k → block_at l.len l.out j ≡ bytes_at l.fn.rest j
  pub len : length l.out ≡ length l.fn.out

abbrev pub invariant-loop-k : goal.invariant-loop-k
invariant-loop-k l = Copied l
