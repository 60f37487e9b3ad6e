-- Two feeds, each with what it was fed and the records that it gave.
use Rattle.std.specs.Prelude.{◌≡◌, ℕ, ◌<◌, ◌≤◌, max, Bool, true, false, List, [], ◌∷◌, ◌++◌, length, take}
use Rattle.plp_config.specs.declared.config.Config.{Config}
use Rattle.plp_config.specs.declared.moment.TheConstants.{MOST_FRAMES}
use Rattle.frame_groups.specs.Modulated.{FrameRecord, Numbered}
use Rattle.modulator.specs.StandsFor.{records_due}
use Rattle.feed_merge.specs.Picks.{above_all}
use Rattle.file_run.specs.Events.{Event, fed, has_ended, gave}
use Rattle.feed_merge.specs.Groups.{AreGroups}
use Rattle.feed_merge.specs.FeedStandsFor.{IsFirst, waiting_of}
use Rattle.feed_merge.specs.declared.feed.FrameFeed.{FrameFeed}
use Rattle.feed_merge.specs.Fed.{IsFedWith, IsBehind}

-- The frame of the last record is under way: it waits still.
pub record IsHeld (c : Config) (f : FrameFeed) (bytes : List ℕ) (ended : Bool) (given : List FrameRecord) : Type 0 where
  pub before : List FrameRecord
  pub one : FrameRecord
  pub later : List FrameRecord
  pub given_is : given ≡ before ++ one ∷ []
  pub due : records_due c ended bytes ≡ before ++ one ∷ later
  pub first : IsFirst (waiting_of f) (one ∷ [])
  pub fed : IsFedWith c f bytes ended before

-- A feed of a network was fed with an input, and gave these records, the last one with a frame that is under way or
-- not.
abbrev pub OfFeed : Bool → Config → FrameFeed → List ℕ → Bool → List FrameRecord → Type 0
OfFeed true c f bytes ended given = IsHeld c f bytes ended given
OfFeed false c f bytes ended given = IsFedWith c f bytes ended given

-- What comes of it has a number that is no lower.
abbrev pub IsPast : Bool → ℕ → FrameFeed → List FrameRecord → Type 0
IsPast true next f given = next ≤ above_all given
IsPast false next f given = IsBehind next f given

-- So it is of both feeds and of two inputs. The next number is the one behind all records that they gave.
pub record AreFedWith (c : Config) (events : List Event) (held_a held_b : Bool) (next : ℕ) (a b : FrameFeed)
    (given_a given_b : List FrameRecord) : Type 0 where
  pub of_a : OfFeed held_a c a (fed 0 events) (has_ended 0 events) given_a
  pub of_b : OfFeed held_b c b (fed 1 events) (has_ended 1 events) given_b
  pub behind_a : IsPast held_a next a given_a
  pub behind_b : IsPast held_b next b given_b
  pub next_is : next ≡ max (above_all given_a) (above_all given_b)
  pub early : next ≤ MOST_FRAMES

-- One of them was fed more, or it has ended: nothing was given since, and either stream has no groups that it could not
-- have before.
pub record GoOn (c : Config) (events more : List Event) (next : ℕ) (a b : FrameFeed)
    (given_a given_b : List FrameRecord) : Type 0 where
  pub both : AreFedWith c more false false next a b given_a given_b
  pub gave_is : gave more ≡ gave events
  pub groups : (input : ℕ) → input < 2 → (gs : List Numbered) → AreGroups c (fed input more) (has_ended input more) gs
      → AreGroups c (fed input events) (has_ended input events) gs

-- By fewer bytes of an input than were fed of it, no record is due of this number or a higher one.
abbrev pub IsDueBelow : Config → ℕ → List ℕ → Type 0
IsDueBelow c low bytes = (k : ℕ) → k < length bytes → above_all (records_due c false (take k bytes)) ≤ low
