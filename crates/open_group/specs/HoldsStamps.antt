-- What is held of the timestamps of a group.
use Rattle.std.specs.Prelude.{◌≡◌, List, slice_get}
use Rattle.std.specs.Option.{option_or}
use Rattle.t2mi_packet.specs.declared.packet.Stamp.{Stamp}
use Rattle.frame_groups.specs.Tally.{Tally, unlike_behind}
use Rattle.open_group.specs.declared.stamps.HeldStamps.{HeldStamps}

-- More timestamps were added.
pub record AddsStamps (old new : HeldStamps) (more : List Stamp) : Type 0 where
  pub first : new.first ≡ option_or old.first (slice_get more 0)
  pub unlike : new.unlike ≡ option_or old.unlike (unlike_behind old.first more)

-- They are those of a tally.
pub record HoldsStamps (held : HeldStamps) (t : Tally) : Type 0 where
  pub first : held.first ≡ t.stamp
  pub unlike : held.unlike ≡ t.unlike
