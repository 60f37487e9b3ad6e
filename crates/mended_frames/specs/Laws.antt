-- Laws of the frames that are made, whatever the streams are.
use Rattle.std.specs.Prelude.{◌<◌, ◌≡◌, ℕ, List, [], ◌∷◌, None}
use Rattle.plp_config.specs.declared.config.Config.{Config}
use Rattle.frame_groups.specs.Modulated.{Numbered}
use Rattle.frame_groups.specs.Tests.{group_fault}
use Rattle.spaced_frames.specs.Laws.{Rise, AreNear}
use Rattle.spaced_frames.specs.Spaced.{spaced}
use Rattle.mended_frames.specs.Feeds.{made_of_all}
use Rattle.mended_frames.specs.Mended.{Made, with_made, frames_of}

-- Each frame passes our six tests as the frame of its number, behind the frames that were made before.
abbrev pub PassBehind : Config → List Numbered → List Made → Type 0
PassBehind c past [] = Unit {0}
PassBehind c past (x ∷ made) = (group_fault c past x.group x.number ≡ None) × PassBehind c (with_made past x) made

abbrev pub MadePass : Type 0
MadePass = (c : Config) (k : ℕ) (streams : ℕ → List ℕ) → PassBehind c [] (made_of_all c k streams)

-- Their numbers rise.
abbrev pub MadeRise : Type 0
MadeRise = (c : Config) (k : ℕ) (streams : ℕ → List ℕ) → Rise (frames_of c (made_of_all c k streams))

-- Of their packets, with those of superframes of a timestamp alone, none is more than 14 superframes behind the one
-- before.
abbrev pub MadeAreNear : Type 0
MadeAreNear = (c : Config) (k : ℕ) (streams : ℕ → List ℕ) → 0 < c.frames
    → AreNear c (spaced c (frames_of c (made_of_all c k streams)))
