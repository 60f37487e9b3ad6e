-- What is seen of the record that waits.
use Rattle.std.specs.Prelude.{not, is_some, Option, Some, None}
use Rattle.frame_groups.specs.declared.waiting.Waiting.{Waiting}
use Rattle.feed_merge.specs.declared.seen.Seen.{Seen}

-- a record that waits, as it is seen
abbrev pub seen_of : Option Waiting → Option Seen
seen_of None = None
seen_of (Some w) = Some (record { frame = w.frame; whole = not (is_some w.mute) })
