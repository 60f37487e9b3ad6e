-- What two feeds want next, by the records that wait.
use Rattle.std.specs.Prelude.{ℕ, ◌+◌, ◌==◌, nat_lt, min, Bool, true, false, Option, Some, None, if◌then◌else◌}
use Rattle.plp_config.specs.declared.moment.TheConstants.{MOST_FRAMES}
use Rattle.frame_groups.specs.declared.waiting.Waiting.{Waiting}
use Rattle.file_run.specs.FileRun.{read_ahead}
use Rattle.file_run.specs.declared.machine.Step.{Step}
use Rattle.file_run.specs.declared.machine.Step.TheVariants.{Read, Give, End}
use Rattle.feed_merge.specs.FeedStandsFor.{waiting_of, has_ended, fed_of}
use Rattle.feed_merge.specs.declared.feed.FrameFeed.{FrameFeed}

-- No record waits, and the stream has not ended.
abbrev pub is_idle : Option Waiting → Bool → Bool
is_idle None true = false
is_idle None false = true
is_idle (Some w) ended = false

-- the least number of the records that wait
abbrev pub least_of : Option Waiting → Option Waiting → Option ℕ
least_of None None = None
least_of (Some v) None = Some v.frame
least_of None (Some w) = Some w.frame
least_of (Some v) (Some w) = Some (min v.frame w.frame)

abbrev pub wants_of : ℕ → Step
wants_of input = Read input 1 read_ahead

-- the frame of the least number comes next, if one may have it, and behind the last one the rest
abbrev pub step_at : Option ℕ → Step
step_at None = Give
step_at (Some n) = if nat_lt n MOST_FRAMES then Give else End

-- by what waits of both, and whether they have ended
abbrev pub step_by : Option Waiting → Bool → Option Waiting → Bool → Step
step_by v ended w over =
    if is_idle v ended then wants_of 0 else (if is_idle w over then wants_of 1 else step_at (least_of v w))

-- of two inputs
abbrev pub fed_at : ℕ → ℕ → ℕ → ℕ
fed_at a b input = if input == 0 then a else b

-- how far each of them may be read
abbrev pub reach_by : FrameFeed → FrameFeed → ℕ → ℕ
reach_by a b input = fed_at (fed_of a) (fed_of b) input + read_ahead

-- what two feeds want
abbrev pub step_for : FrameFeed → FrameFeed → Step
step_for a b = step_by (waiting_of a) (has_ended a) (waiting_of b) (has_ended b)
