-- A law of the records of groups.
use Rattle.std.specs.Prelude.{◌≡◌, ◌<◌, ◌^◌, List, None}
use Rattle.plp_config.specs.Capacity.{IsPlan}
use Rattle.plp_config.specs.declared.config.Config.{Config}
use Rattle.frame_groups.specs.Groups.{Group}
use Rattle.frame_groups.specs.Modulated.{Numbered, FrameRecord}
use Rattle.frame_groups.specs.Modulated.Content.{Whole}
use Rattle.record_laws.specs.Frames.{HasByteIds}
use Rattle.frame_groups.specs.Tests.{group_fault}
use Rattle.site_frame.specs.Whole.{Spells}
use Rattle.open_group.specs.Written.{content_view, spelled}

-- Of a plan, the bytes of a record spell it: the frame of a group that passes the tests as the frame of its number, or
-- a muted one. So they are read back.
abbrev pub RecordSpelled : Type 0
RecordSpelled = (c : Config) (x : FrameRecord) → IsPlan c → HasByteIds c → x.number < 2 ^ 32
    → ((g : Group) → x.content ≡ Whole g → (past : List Numbered) × (group_fault c past g x.number ≡ None))
    → Spells (content_view c x.number x.content) (spelled c x)
