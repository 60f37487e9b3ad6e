-- The record that waits, of a group.
use Rattle.frame_groups.specs.Groups.{Group}
use Rattle.frame_groups.specs.Modulated.{FrameRecord, content_of}
use Rattle.frame_groups.specs.declared.waiting.Waiting.{Waiting}

abbrev pub record_of : Group → Waiting → FrameRecord
record_of h w = record { number = w.frame; content = content_of h w.mute }
