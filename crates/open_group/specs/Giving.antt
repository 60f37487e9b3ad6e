-- What a writer can give of a group. No public clause cites this module.
use Rattle.std.specs.Prelude.{Bool, true, false, List, ℕ}
use denote.Struct.Props as logic
use Rattle.plp_config.specs.declared.config.Config.{Config}
use Rattle.scheduler.specs.Shape.{FrameShape}
use Rattle.open_group.specs.Writes.{IsLast, IsReady, IsReady-prop}
use Rattle.open_group.specs.declared.writer.Writer.{Writer}

-- Of a group that is intact it gives nothing; of another it can give what stands in the lists.
abbrev pub CanGive : Bool → Writer → Config → FrameShape → List (List (List ℕ)) → Type 0
CanGive true w c shape lists = IsLast w
CanGive false w c shape lists = IsReady w c shape lists

-- That has one proof at most, so it may be a ghost field.
pub CanGive-prop : (intact : Bool) (w : Writer) (c : Config) (shape : FrameShape) (lists : List (List (List ℕ)))
    → IsProp (CanGive intact w c shape lists)
CanGive-prop true w c shape lists = Prim.hlevel logic.props
CanGive-prop false w c shape lists = IsReady-prop w c shape lists
