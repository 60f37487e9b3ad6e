-- Which feed a frame comes from, by the records that wait.
use Rattle.std.specs.Prelude.{ℕ, ◌==◌, ◌&&◌, min, Bool, false, Option, Some, None, if◌then◌else◌}
use Rattle.feed_merge.specs.declared.seen.Feed.{Feed}
use Rattle.feed_merge.specs.declared.seen.Feed.TheVariants.{A, B}
use Rattle.feed_merge.specs.declared.seen.Pick.{Pick}
use Rattle.feed_merge.specs.declared.seen.Seen.{Seen}

-- the record of a feed is of frame n
abbrev pub is_at : ℕ → Option Seen → Bool
is_at n None = false
is_at n (Some s) = s.frame == n

-- and is not muted
abbrev pub is_there : ℕ → Option Seen → Bool
is_there n None = false
is_there n (Some s) = (s.frame == n) && s.whole

-- frame n comes from A if A has it, else from B if B has it
abbrev pub source_at : ℕ → Option Seen → Option Seen → Option Feed
source_at n a b = if is_there n a then Some A else (if is_there n b then Some B else None)

abbrev pub pick_at : ℕ → Option Seen → Option Seen → Pick
pick_at n a b = record { source = source_at n a b; leave_a = is_at n a; leave_b = is_at n b }

-- n is the least number that is seen
abbrev pub picked : Option Seen → Option Seen → Pick
picked None None = record { source = None; leave_a = false; leave_b = false }
picked (Some s) None = pick_at s.frame (Some s) None
picked None (Some t) = pick_at t.frame None (Some t)
picked (Some s) (Some t) = pick_at (min s.frame t.frame) (Some s) (Some t)
