-- The groups of a stream that have numbers: what came of each frame, whether it is muted or not.
use Rattle.std.specs.Prelude.{◌≡◌, ℕ, ◌<◌, Bool, true, List, [], ◌++◌, length, None}
use Rattle.plp_config.specs.InterleavingFrames.{begin_of}
use Rattle.plp_config.specs.declared.config.Config.{Config}
use Rattle.t2mi_stream.specs.Units.{accepted_of}
use Rattle.frame_groups.specs.Groups.{groups}
use Rattle.frame_groups.specs.Modulated.{Numbered, past_after}
use Rattle.frame_groups.specs.Begun.{packets_at}
use Rattle.frame_groups.specs.Tests.{rules, room_test}
use Rattle.modulator.specs.Modulating.{packets_of}

-- the groups of a stream that have numbers, the last one in front
abbrev pub groups_of : Config → List ℕ → List Numbered
groups_of c bytes = past_after (rules c) [] (groups c.frames (packets_of (accepted_of c.pid bytes)))

-- Those of some stream that begins with these bytes, and has no more if it has ended.
pub record AreGroups (c : Config) (bytes : List ℕ) (ended : Bool) (gs : List Numbered) : Type 0 where
  pub more : List ℕ
  pub none : ended ≡ true → more ≡ []
  pub are : gs ≡ groups_of c (bytes ++ more)

-- The blocks of the group of frame n that have the length of their PLP have room.
abbrev pub HasRoom : Config → List Numbered → ℕ → Type 0
HasRoom c gs n = room_test c (packets_at gs n) ≡ None

-- So have those of each group in which an interleaving frame begins that frame n carries (EN 302 755, clause 6.5).
abbrev pub CarriesRoom : Config → List Numbered → ℕ → Type 0
CarriesRoom c gs n = (plp : ℕ) → plp < length c.plps → HasRoom c gs (begin_of c plp n)
