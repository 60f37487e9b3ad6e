-- What a feed was fed with, what it gave, and which numbers come of it.
use Rattle.std.specs.Prelude.{◌≡◌, ℕ, ◌+◌, ◌<◌, ◌≤◌, Bool, true, false, List, [], ◌∷◌, take, slice_index, Some, None}
use Rattle.plp_config.specs.declared.config.Config.{Config}
use Rattle.plp_config.specs.declared.moment.TheConstants.{MOST_FRAMES}
use Rattle.frame_groups.specs.Modulated.{FrameRecord}
use Rattle.frame_groups.specs.declared.waiting.Waiting.{Waiting}
use Rattle.modulator.specs.StandsFor.{records_due}
use Rattle.feed_merge.specs.Laws.{AllBelow}
use Rattle.feed_merge.specs.Picks.{above_all}
use Rattle.file_run.specs.FileRun.{read_ahead}
use Rattle.feed_merge.specs.FeedStandsFor.{FrameFeedStandsFor, waiting_of}
use Rattle.feed_merge.specs.FeedStandsFor as feed
use Rattle.feed_merge.specs.declared.feed.FrameFeed.{FrameFeed}

-- the names of the inputs
abbrev pub names_of : List ℕ → List ℕ → List (List ℕ)
names_of a b = a ∷ b ∷ []

-- Each record is of a frame whose number one may have.
abbrev pub AreEarly : List FrameRecord → Type 0
AreEarly records = AllBelow MOST_FRAMES records

-- the number behind those of all records that are due by so many bytes of a file
abbrev pub end_by : Config → List ℕ → ℕ → ℕ
end_by c file taken = above_all (records_due c false (take taken file))

-- No input was read by more than is read ahead behind bytes by which a record is due of frame n or a later one.
abbrev pub ReadsAhead : Config → ℕ → (ℕ → List ℕ) → List ℕ → Type 0
ReadsAhead c n files places =
    (input taken : ℕ) → input < 2 → taken + read_ahead < slice_index places input → end_by c (files input) taken ≤ n

-- A feed of a network was fed with an input, and gave these records.
pub record IsFedWith (c : Config) (f : FrameFeed) (bytes : List ℕ) (ended : Bool) (given : List FrameRecord) :
    Type 0 where
  pub network : feed.config_of f ≡ c
  pub stands : FrameFeedStandsFor f bytes ended given

-- What waits has a number that is no lower; and if nothing waits and the stream has not ended, no record that follows
-- has one.
pub record IsBehind (next : ℕ) (f : FrameFeed) (given : List FrameRecord) : Type 0 where
  pub waits : (w : Waiting) → waiting_of f ≡ Some w → next ≤ w.frame
  pub idle : waiting_of f ≡ None → feed.has_ended f ≡ false → next ≤ above_all given

-- No record comes.
pub record NoneComes (f : FrameFeed) : Type 0 where
  pub none : waiting_of f ≡ None
  pub ended : feed.has_ended f ≡ true
