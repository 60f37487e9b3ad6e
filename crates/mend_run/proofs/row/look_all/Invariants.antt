use Rattle.std.proofs.Common.{◌≡◌, ◌<◌, ℕ, Some}
use Rattle.std.specs.Prelude.{slice_get}
use Rattle.mended_frames.specs.StandsFor.{Feed}
use Rattle.mend_run.specs.Row.{Shows}
use Rattle.mend_run.proofs.row.look_all.Given as goal

abbrev pub invariant-loop-i : goal.invariant-loop-i
invariant-loop-i l = (i : ℕ) (f : Feed) → i < l.i → slice_get l.feeds i ≡ Some f → Shows f
