-- The numbers of frames that were picked.
use Rattle.std.specs.Prelude.{ℕ, ◌+◌, Bool, true, false, not, List, length}
use Rattle.std.specs.List.{filter}
use Rattle.feed_merge.specs.Picks.{Picked}
use Rattle.feed_merge.specs.declared.seen.Feed.{Feed}
use Rattle.feed_merge.specs.declared.seen.Feed.TheVariants.{A, B}
use Rattle.merge_run.specs.declared.stop.MergeRan.{MergeRan}

-- whether a frame comes from the first input
abbrev pub is_first : Feed → Bool
is_first A = true
is_first B = false

abbrev pub from_first : Picked → Bool
from_first p = is_first p.feed

abbrev pub from_second : Picked → Bool
from_second p = not (is_first p.feed)

-- how many frames were picked, from either input, and so many units
abbrev pub counted : List Picked → ℕ → MergeRan
counted picked units = record {
  frames = length picked;
  a = length (filter from_first picked);
  b = length (filter from_second picked);
  units = units;
}

-- one frame more
abbrev pub added : MergeRan → Feed → MergeRan
added ran A = record { frames = ran.frames + 1; a = ran.a + 1; b = ran.b; units = ran.units }
added ran B = record { frames = ran.frames + 1; a = ran.a; b = ran.b + 1; units = ran.units }
