use Rattle.std.proofs.Common.{◌≡◌, ◌&&◌, ◌<◌, ◌+◌, ℕ, false, get_or, length}
use Rattle.cell_map.specs.Reading.{reading_at}
use Rattle.plp_receiver.specs.Seeing.{seen_from}
use Rattle.plp_receiver.proofs.standing.see_each.Given as goal

pub record Saw (l : goal.Live-loop-i) : Type 0 where
  pub expected : l.expected ≡ reading_at l.plan l.shape l.frame_idx (l.address + l.i)
  pub len : length l.stands ≡ length l.fn.stands
  pub each : (k : ℕ) → k < length l.fn.stands → get_or l.stands k false
      ≡ (get_or l.fn.stands k false && seen_from l.plan l.shape l.frame_idx l.cells (l.first + k) l.address l.i)

abbrev pub invariant-loop-i : goal.invariant-loop-i
invariant-loop-i l = Saw l
