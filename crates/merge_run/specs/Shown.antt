-- What was done to two feeds and the merger of their frames. No public clause cites this module.
use Rattle.std.specs.Prelude.{◌≡◌, ℕ, ◌+◌, ◌*◌, ◌^◌, ◌<◌, ◌≤◌, Bool, true, false, List, [], ◌++◌, length, Some}
use Rattle.plp_config.specs.Capacity.{IsPlan}
use Rattle.plp_config.specs.declared.config.Config.{Config}
use Rattle.plp_config.specs.declared.moment.TheConstants.{MOST_FRAMES}
use Rattle.t2mi_packet.specs.declared.packet.Body.{Body}
use Rattle.ts_packet.specs.TsFile.{joined}
use Rattle.terms.specs.Lists.{IsPrefix}
use Rattle.frame_groups.specs.Modulated.{FrameRecord}
use Rattle.frame_groups.specs.declared.waiting.Waiting.{Waiting}
use Rattle.t2mi_stream.specs.Complete.{complete_units}
use Rattle.t2mi_stream.specs.Pipe.{pipe}
use Rattle.stream_laws.specs.Remade.{NumberedView, remade_bodies, remade_packets}
use Rattle.file_run.specs.Events.{Event, fed, gave}
use Rattle.feed_merge.specs.Picks.{picks, picks_below, frames_of}
use Rattle.feed_merge.specs.declared.seen.Feed.{Feed}
use Rattle.feed_merge.specs.declared.seen.Feed.TheVariants.{A, B}
use Rattle.feed_merge.specs.FeedStandsFor.{waiting_of, is_whole}
use Rattle.feed_merge.specs.declared.feed.FrameFeed.{FrameFeed}
use Rattle.feed_merge.specs.StandsFor.{MergerStandsFor, has_unit, has_finished, is_fed, bytes_left}
use Rattle.feed_merge.specs.StandsFor as merger
use Rattle.feed_merge.specs.declared.merger.Merger.{Merger}
use Rattle.feed_merge.specs.Both.{AreFedWith, IsDueBelow}
use Rattle.feed_merge.specs.Fed.{NoneComes}
use Rattle.merge_run.specs.Counted.{counted}
use Rattle.merge_run.specs.Sending.{left_for}
use Rattle.merge_run.specs.Taking.{is_same, feed_in}
use Rattle.merge_run.specs.declared.machine.MergeMachine.{MergeMachine}
use Rattle.merge_run.specs.declared.phase.Phase.{Phase}
use Rattle.merge_run.specs.declared.phase.Phase.TheVariants.{Reads, Gives, Rests, Done}

-- Of these frames units were given, the first ones whatever packets follow, and before the end only complete ones. Of
-- the last one these bodies are left.
pub record Sends (c : Config) (g : Merger) (left : List Body) (frames : List NumberedView) (count : ℕ)
    (gave : List ℕ) : Type 0 where
  pub network : merger.config_of g ≡ c
  pub stands : MergerStandsFor g left (remade_bodies c frames) count
  pub units : List (List ℕ)
  pub gave_is : gave ≡ joined units
  pub count_is : count ≡ length units
  pub front : (more : List (List ℕ)) → (has_finished g ≡ true → more ≡ [])
      → IsPrefix units (pipe c.pid (remade_packets c frames ++ more))
  pub whole : has_finished g ≡ false → count ≤ length (complete_units c.pid (remade_packets c frames))

-- All complete units were given, and more frames may come.
pub record IsReading (c : Config) (g : Merger) (frames : List NumberedView) (count : ℕ) : Type 0 where
  pub is_open : has_finished g ≡ false
  pub idle : has_unit g ≡ false
  pub complete : count ≡ length (complete_units c.pid (remade_packets c frames))

-- The frame of a record that waits is under way.
pub record IsGiving (g : Merger) (f : FrameFeed) : Type 0 where
  pub is_open : has_finished g ≡ false
  pub whole : is_whole (waiting_of f) ≡ true
  pub early : (w : Waiting) → waiting_of f ≡ Some w → w.frame < MOST_FRAMES

-- No more frames come.
pub record IsResting (g : Merger) (a b : FrameFeed) : Type 0 where
  pub over : has_finished g ≡ true
  pub all_fed : is_fed g ≡ true
  pub none_a : NoneComes a
  pub none_b : NoneComes b

-- All units were given.
pub record IsDone (c : Config) (frames : List NumberedView) (count : ℕ) (a b : FrameFeed) : Type 0 where
  pub all : length (pipe c.pid (remade_packets c frames)) ≡ count
  pub none_a : NoneComes a
  pub none_b : NoneComes b

-- the feed whose frame is under way, if one is
abbrev pub feed_of : MergeMachine → FrameFeed
feed_of m = feed_in m.source m.a m.b

abbrev pub IsIn : Config → MergeMachine → List NumberedView → Phase → Type 0
IsIn c m frames Reads = IsReading c m.merger frames m.ran.units
IsIn c m frames Gives = IsGiving m.merger (feed_of m)
IsIn c m frames Rests = IsResting m.merger m.a m.b
IsIn c m frames Done = IsDone c frames m.ran.units m.a m.b

-- whether the frame under way is one of a feed
abbrev pub is_held : Phase → Feed → Feed → Bool
is_held Reads source from = false
is_held Gives source from = is_same source from
is_held Rests source from = false
is_held Done source from = false

-- what is left of it
abbrev pub left_at : Phase → Merger → FrameFeed → List Body
left_at Reads g f = []
left_at Gives g f = left_for g f
left_at Rests g f = []
left_at Done g f = []

-- no fewer than the units that can be given before the next frame; between frames fewer than 184 bytes wait
abbrev pub more_units : Phase → Merger → FrameFeed → ℕ
more_units Reads g f = 184
more_units Gives g f = 184 + bytes_left g (left_for g f)
more_units Rests g f = bytes_left g []
more_units Done g f = 0

-- no frame has so many bytes
abbrev pub frame_bytes : ℕ
frame_bytes = 2 ^ 30

-- what was counted: frames by the numbers that were passed, and units by the bytes that frames have
pub record CountsFrames (m : MergeMachine) : Type 0 where
  pub frames : m.ran.frames ≤ m.next
  pub parts : m.ran.a + m.ran.b ≡ m.ran.frames
  pub units : m.ran.units + more_units m.phase m.merger (feed_of m) ≤ m.next * frame_bytes + 184

-- By fewer bytes of either input than were fed of it no record is due of some number or a higher one, and the complete
-- units of the frames were given that are picked below it.
pub record IsLive (c : Config) (fed_a fed_b : List ℕ) (given_a given_b : List FrameRecord) (next count : ℕ) :
    Type 0 where
  pub low : ℕ
  pub within : low ≤ next
  pub due_a : IsDueBelow c low fed_a
  pub due_b : IsDueBelow c low fed_b
  pub done : length (complete_units c.pid (remade_packets c (frames_of (picks_below c given_a given_b low)))) ≤ count

-- What was done, and where two feeds of a network and the merger are then.
pub record Shown (c : Config) (events : List Event) (m : MergeMachine) : Type 0 where
  pub config : m.plan.now ≡ c
  pub plan : IsPlan c
  pub given_a : List FrameRecord
  pub given_b : List FrameRecord
  pub both : AreFedWith c events (is_held m.phase m.source A) (is_held m.phase m.source B) m.next m.a
      m.b given_a given_b
  pub sends : Sends c m.merger (left_at m.phase m.merger (feed_of m)) (frames_of (picks c given_a given_b))
      m.ran.units (gave events)
  pub ran_is : m.ran ≡ counted (picks c given_a given_b) m.ran.units
  pub counts : CountsFrames m
  pub live : IsLive c (fed 0 events) (fed 1 events) given_a given_b m.next m.ran.units
  pub is_in : IsIn c m (frames_of (picks c given_a given_b)) m.phase

-- Something was done, and then they are there.
pub record HasShown (m : MergeMachine) : Type 0 where
  pub network : Config
  pub events : List Event
  pub shown : Shown network events m
