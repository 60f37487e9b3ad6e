-- What a record tells whose L1 agrees.
use Rattle.std.proofs.Common.{◌≡◌, ℕ, Bool, true, List, Option, Some, None, cond}
use Rattle.cell_map.specs.declared.places.Cell.{Cell}
use Rattle.frame_groups.specs.Tests.{read_whole, pre_agrees}
use Rattle.l1_signal.specs.L1Of.{told_shape}
use Rattle.l1_signal.specs.L1Pre.{pre_reading}
use Rattle.l1_signal.specs.declared.dynamic.L1Dyn.{L1Dyn}
use Rattle.plp_config.specs.declared.config.Config.{Config}
use Rattle.scheduler.specs.Shape.{FrameShape}
use Rattle.site_frame.specs.Record.{Block}
use Rattle.frame_groups.specs.Readable.{told_dynamic, post_agrees, shape_agrees, readable}

pub told_readable : (c : Config) (n : ℕ) (pre post : List Bool) (blocks : List Block) (cells : List (Option Cell))
    (d : L1Dyn)
    (shape : FrameShape) (fits : Bool)
    → pre_agrees c (read_whole (pre_reading true pre)) ≡ true → post_agrees c n post ≡ true
    → told_dynamic c post ≡ Some d
    → shape ≡ told_shape d → fits ≡ shape_agrees c n blocks cells shape
    → readable c n pre post blocks cells ≡ cond {A = Option FrameShape} fits (Some shape) None
unfolding readable
told_readable c n pre post blocks cells d shape fits first behind told is own = rw (first, behind, told, own, is)
