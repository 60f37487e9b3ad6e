-- The first feed that has a frame whole. No public clause cites this module.
use Rattle.std.specs.Prelude.{◌≡◌, ℕ, List, find, slice_get, Some}
use Rattle.plp_config.specs.declared.config.Config.{Config}
use Rattle.frame_groups.specs.Groups.{Group}
use Rattle.frame_groups.specs.Modulated.{Numbered}
use Rattle.open_group.specs.Holds.{Holds}
use Rattle.mended_frames.specs.Mended.{passes}
use Rattle.mended_frames.specs.StandsFor.{Feed, pooled_of}

-- The feed at a place has the first group that passes.
pub record Chooses (c : Config) (before : List Numbered) (n : ℕ) (feeds : List Feed) (gs : List Group)
    (i : ℕ) : Type 0 where
  pub feed : Feed
  pub is : slice_get feeds i ≡ Some feed
  pub group : Group
  pub own : List Numbered
  pub holds : Holds (pooled_of feed) own (Some group)
  pub first : find (passes c before n) gs ≡ Some group
