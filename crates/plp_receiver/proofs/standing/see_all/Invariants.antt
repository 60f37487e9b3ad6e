use Rattle.std.proofs.Common.{◌≡◌, ◌&&◌, ◌<◌, ◌≤◌, ◌+◌, ◌-◌, ℕ, false, get_or, length}
use Rattle.plp_receiver.specs.Seeing.{seen_from}
use Rattle.plp_receiver.proofs.standing.see_all.Given as goal

pub record Saw (l : goal.Live-loop-address) : Type 0 where
  pub end : l.end ≡ l.plan.cells
  pub inside : l.address ≤ l.end
  pub len : length l.stands ≡ length l.fn.stands
  pub each : (k : ℕ) → k < length l.fn.stands → get_or l.stands k false
      ≡ (get_or l.fn.stands k false && seen_from l.plan l.shape l.frame_idx l.cells (l.first + k) 0 l.address)

abbrev pub invariant-loop-address : goal.invariant-loop-address
invariant-loop-address l = Saw l

abbrev pub decreases-loop-address : goal.decreases-loop-address
decreases-loop-address l = l.end - l.address
