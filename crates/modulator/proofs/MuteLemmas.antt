-- What waits tells why it is muted.
use Rattle.std.proofs.Common.{◌≡◌, Option, Some, None, refl}
use Rattle.frame_groups.specs.Groups.{Group}
use Rattle.frame_groups.specs.Modulated.{content_of}
use Rattle.frame_groups.specs.declared.cause.MuteCause.{MuteCause}
use Rattle.modulator.specs.StandsFor.{mute_of}

pub mute_told : (h : Group) (mute : Option MuteCause) → mute_of (content_of h mute) ≡ mute
mute_told h None = refl
mute_told h (Some cause) = refl
