-- What a feed of frames stands for.
use Rattle.std.specs.Prelude.{◌≡◌, ℕ, ◌<◌, Bool, false, is_some, not, List, [], ◌∷◌, ◌++◌, length, take, Option, Some}
use Rattle.std.specs.Prelude.{None}
use Rattle.plp_config.specs.declared.config.Config.{Config}
use Rattle.t2mi_stream.specs.UnpiperStandsFor.{fed_len}
use Rattle.terms.specs.Lists.{IsPrefix}
use Rattle.frame_groups.specs.Modulated.{FrameRecord}
use Rattle.frame_groups.specs.declared.waiting.Waiting.{Waiting}
use Rattle.modulator.specs.Modulating.{StandsAt, records_ahead}
use Rattle.modulator.specs.StandsFor.{records_due, mute_of}
use Rattle.feed_merge.specs.declared.feed.FrameFeed.{FrameFeed}

-- its network, the record that waits, whether the stream has ended, and how many bytes were fed
abbrev pub config_of : FrameFeed → Config
config_of f = f.inner.sequence.group.network

abbrev pub waiting_of : FrameFeed → Option Waiting
waiting_of f = f.waiting

abbrev pub has_ended : FrameFeed → Bool
has_ended f = f.inner.finished

abbrev pub fed_of : FrameFeed → ℕ
fed_of f = fed_len f.inner.unpiper

-- no fewer than the records that it can leave behind before it wants bytes
abbrev pub left_of : FrameFeed → ℕ
left_of f = records_ahead f.inner

-- A record waits, and is not muted.
abbrev pub is_whole : Option Waiting → Bool
is_whole None = false
is_whole (Some w) = not (is_some w.mute)

-- What waits is the first of some records, if there is one.
abbrev pub IsFirst : Option Waiting → List FrameRecord → Type 0
IsFirst None later = later ≡ []
IsFirst (Some w) [] = ⊥
IsFirst (Some w) (x ∷ later) = (x.number ≡ w.frame) × (mute_of x.content ≡ w.mute)

-- These bytes were fed, perhaps to their end, and these records were left behind. They are the first of those that are
-- due; the one that waits is the next.
pub record FrameFeedStandsFor (f : FrameFeed) (bytes : List ℕ) (ended : Bool) (given : List FrameRecord) : Type 0 where
  pub stands : StandsAt f.inner bytes given
  pub count : fed_of f ≡ length bytes
  pub end : has_ended f ≡ ended
  pub later : List FrameRecord
  pub all : records_due (config_of f) ended bytes ≡ given ++ later
  pub first : IsFirst (waiting_of f) later
  -- No byte was taken behind the one with which a record waits: all that is due by fewer bytes was left behind.
  pub front : (k : ℕ) → k < length bytes → IsPrefix (records_due (config_of f) false (take k bytes)) given

-- The record that waited was left behind.
pub record Skipped (old new : FrameFeed) (bytes : List ℕ) (ended : Bool) (given : List FrameRecord) : Type 0 where
  pub next : FrameRecord
  pub waited : IsFirst (waiting_of old) (next ∷ [])
  pub stands : FrameFeedStandsFor new bytes ended (given ++ next ∷ [])
