-- The record that waits is left behind, or not.
use Rattle.std.specs.Prelude.{◌≡◌, ℕ, ◌+◌, ◌<◌, ◌≤◌, Bool, true, false, List, [], ◌∷◌, ◌++◌, Option, Some, None}
use Rattle.plp_config.specs.declared.moment.TheConstants.{MOST_FRAMES}
use Rattle.frame_groups.specs.Modulated.{FrameRecord}
use Rattle.frame_groups.specs.declared.waiting.Waiting.{Waiting}
use Rattle.feed_merge.specs.FeedStandsFor.{FrameFeedStandsFor, IsFirst, config_of, waiting_of, has_ended, fed_of}
use Rattle.feed_merge.specs.FeedStandsFor.{left_of}
use Rattle.feed_merge.specs.declared.feed.FrameFeed.{FrameFeed}

abbrev pub one_if : Bool → ℕ
one_if true = 1
one_if false = 0

-- If a record is to be left behind, one waits, of a frame whose number one may have.
abbrev pub CanBeLeft : Bool → Option Waiting → Type 0
CanBeLeft true None = ⊥
CanBeLeft true (Some w) = w.frame < MOST_FRAMES
CanBeLeft false o = Unit {0}

-- The record that waited is the only one of these.
pub record IsOnly (o : Option Waiting) (xs : List FrameRecord) : Type 0 where
  pub one : FrameRecord
  pub only : xs ≡ one ∷ []
  pub first : IsFirst o (one ∷ [])

-- These records are the one that waited, if it was left behind, and else none.
abbrev pub AreTaken : Bool → Option Waiting → List FrameRecord → Type 0
AreTaken true o xs = IsOnly o xs
AreTaken false o xs = xs ≡ []

-- The record that waited was left behind, if it was to be.
pub record Takes (taken : Bool) (old new : FrameFeed) (bytes : List ℕ) (ended : Bool) (given : List FrameRecord) :
    Type 0 where
  pub records : List FrameRecord
  pub are : AreTaken taken (waiting_of old) records
  pub stands : FrameFeedStandsFor new bytes ended (given ++ records)

-- Nothing was fed, and the stream has not ended since.
pub record IsSameFeed (old new : FrameFeed) : Type 0 where
  pub fed : fed_of new ≡ fed_of old
  pub ended : has_ended new ≡ has_ended old
  pub network : config_of new ≡ config_of old

-- The record that waits was left behind, if it was to be, and else nothing changed.
pub record SkipsIf (leaves : Bool) (old new : FrameFeed) : Type 0 where
  pub takes : (bytes : List ℕ) (ended : Bool) (given : List FrameRecord) → FrameFeedStandsFor old bytes ended given
      → Takes leaves old new bytes ended given
  pub stays : leaves ≡ false → new ≡ old
  pub left : left_of new + one_if leaves ≤ left_of old
  pub same : IsSameFeed old new
