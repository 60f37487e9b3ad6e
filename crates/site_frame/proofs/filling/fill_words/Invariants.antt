use Rattle.std.proofs.Common.{◌≡◌, ◌<◌, ◌≤◌, ◌+◌, ◌-◌, ◌*◌, length, take}
use Rattle.cell_map.specs.Reading.{reading_at}
use Rattle.site_frame.specs.Lines.{IsLast}
use Rattle.site_frame.specs.Words.{words}
use Rattle.site_frame.proofs.filling.fill_words.Given as goal

abbrev pub invariant-loop-done : goal.invariant-loop-done
invariant-loop-done l = record {
  cells : l.cells ≡ reading_at l.plan l.shape l.frame_idx (l.address + l.done);
  most : l.done ≤ l.count;
  last : 0 < l.last.blocks → IsLast l.plan l.shape l.frame_idx l.address l.done l.last;
  len : length l.out ≡ 4 * l.count;
  out : take (4 * l.done) l.out ≡ words l.plan l.shape l.frame_idx l.address l.done;
}

abbrev pub decreases-loop-done : goal.decreases-loop-done
decreases-loop-done l = l.count - l.done
