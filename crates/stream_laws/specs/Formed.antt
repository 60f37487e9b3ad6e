-- Which records are frames that can be sent again (EN 302 755, clauses 5 to 8).
use Rattle.std.specs.Prelude.{◌≡◌, ℕ, Bool, true, List, Some, option_map}
use Rattle.std.specs.Cmp.Lexicographic.{pointwise}
use Rattle.plp_config.specs.Emission.{emission}
use Rattle.plp_config.specs.declared.config.Config.{Config}
use Rattle.plp_config.specs.declared.moment.Moment.{Moment}
use Rattle.scheduler.specs.Shape.{FrameShape}
use Rattle.cell_map.specs.CellMap.{Passes}
use Rattle.l1_signal.specs.L1Of.{told_shape}
use Rattle.l1_signal.specs.L1Pre.{pre_reading}
use Rattle.site_frame.specs.Record.{Block}
use Rattle.site_frame.specs.declared.reading.RecordView.{RecordView}
use Rattle.site_frame.specs.declared.reading.RecordView.TheVariants.{Frame, Muted}
use Rattle.frame_groups.specs.Readable.{told_dynamic, post_agrees, coming, block_sizes, has_size}
use Rattle.frame_groups.specs.Tests.{read_whole, pre_agrees}

-- The parts of a record are those of frame n. The words of its cells are not asked for: the shape tells them.
pub record Forms (c : Config) (n : ℕ) (moment : Moment) (pre post : List Bool) (blocks : List Block) : Type 0 where
  pub leaves : moment ≡ emission c n
  -- L1-pre is the configuration's, with its CRC_32.
  pub pre_is : pre_agrees c (read_whole (pre_reading true pre)) ≡ true
  -- L1-post has its length and its CRC_32, the configuration's configurable part, and a dynamic part with FRAME_IDX of
  -- n and the PLPs in order.
  pub post_is : post_agrees c n post ≡ true
  pub shape : FrameShape
  pub told : option_map told_shape (told_dynamic c post) ≡ Some shape
  -- PLP by PLP there are as many blocks as it tells of those whose interleaving frame begins in n, each with the PLP's
  -- length.
  pub sizes : pointwise has_size blocks (block_sizes c (coming c n shape)) ≡ true
  pub map : Passes c shape

-- A record is a frame formed for number n.
abbrev pub IsFormed : Config → ℕ → RecordView → Type 0
IsFormed c n (Frame moment pre post blocks cells) = Forms c n moment pre post blocks
IsFormed c n (Muted moment) = ⊥
