-- What becomes of the records that wait in two feeds. No clause of a run cites this module.
use Rattle.std.specs.Prelude.{◌&&◌, Bool, true, false, not, Option, Some, None}
use Rattle.feed_merge.specs.declared.seen.Feed.{Feed}
use Rattle.feed_merge.specs.declared.seen.Feed.TheVariants.{A, B}
use Rattle.feed_merge.specs.declared.feed.FrameFeed.{FrameFeed}

-- whether two are the same feed
abbrev pub is_same : Feed → Feed → Bool
is_same A A = true
is_same A B = false
is_same B A = false
is_same B B = true

-- whether a frame comes from a feed
abbrev pub is_from : Feed → Option Feed → Bool
is_from feed None = false
is_from feed (Some source) = is_same source feed

-- what a feed has of a number is left behind at once, unless its frame is sent
abbrev pub leaves : Feed → Bool → Option Feed → Bool
leaves feed has source = has && not (is_from feed source)

-- one of two
abbrev pub feed_in : Feed → FrameFeed → FrameFeed → FrameFeed
feed_in A a b = a
feed_in B a b = b
