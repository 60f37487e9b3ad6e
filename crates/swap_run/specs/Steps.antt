-- What a feed and a swapper do next. No public clause cites this module.
use Rattle.std.specs.Prelude.{ℕ, ◌+◌, ◌-◌, ◌*◌, ◌^◌, ◌==◌, min, Bool, if◌then◌else◌}
use Rattle.plp_config.specs.SlotTime.{slots_by}
use Rattle.plp_config.specs.declared.moment.TheConstants.{MOST_FRAMES}
use Rattle.ts_packet.specs.declared.sizes.TheConstants.{SIZE}
use Rattle.file_run.specs.declared.machine.Step.{Step}
use Rattle.file_run.specs.declared.machine.Step.TheVariants.{Read, Give, End}
use Rattle.feed_merge.specs.FeedStandsFor.{waiting_of, has_ended, fed_of}
use Rattle.feed_merge.specs.FeedStandsFor as feed
use Rattle.feed_merge.specs.declared.feed.FrameFeed.{FrameFeed}
use Rattle.feed_merge.specs.Reading.{is_idle}
use Rattle.region_swap.specs.StandsFor.{status_of, wants_of}
use Rattle.region_swap.specs.declared.swapper.Swapper.{Swapper}
use Rattle.swap_run.specs.Shown.{more_units, frame_bytes}
use Rattle.file_run.specs.FileRun.{read_ahead}
use Rattle.swap_run.specs.declared.phase.Phase.{Phase}
use Rattle.swap_run.specs.declared.phase.Phase.TheVariants.{Records, Packets, Units, Drains, Rests, Done, Stopped}
use Rattle.swap_run.specs.declared.stop.SwapStop.TheVariants.{NoSuperframe, InputRefused, TooManyFrames}
use Rattle.swap_run.specs.declared.machine.SwapMachine.{SwapMachine}

-- no more packets than these are to wait
abbrev pub most_packets : ℕ
most_packets = 2 ^ 30

abbrev pub record_step : Bool → Step
record_step idle = if idle then Read 0 1 read_ahead else Give

abbrev pub packet_step : ℕ → Step
packet_step wants = if wants == 0 then Give else Read 1 SIZE (SIZE * min wants most_packets)

abbrev pub drain_step : Bool → Step
drain_step ended = if ended then Give else Read 1 SIZE read_ahead

-- by whether no record waits and the stream has not ended, how many packets are wanted, and whether the input ended
abbrev pub step_in : Phase → Bool → ℕ → Bool → Step
step_in Records idle wants ended = record_step idle
step_in Packets idle wants ended = packet_step wants
step_in Units idle wants ended = Give
step_in Drains idle wants ended = drain_step ended
step_in Rests idle wants ended = Give
step_in Done idle wants ended = End
step_in (Stopped why) idle wants ended = End

abbrev pub step_of : SwapMachine → Step
step_of m = step_in m.phase (is_idle (waiting_of m.feed) (has_ended m.feed)) (wants_of m.swapper) m.ended

-- the frame whose packets were wanted last: the one under way, or the one before the next
abbrev pub wanted_in : Phase → ℕ → ℕ
wanted_in Records number = number - 1
wanted_in Packets number = number
wanted_in Units number = number
wanted_in Drains number = number
wanted_in Rests number = number
wanted_in Done number = number
wanted_in (Stopped NoSuperframe) number = number - 1
wanted_in (Stopped (InputRefused packet)) number = number
wanted_in (Stopped TooManyFrames) number = number - 1

-- how far an input may have been read: the T2-MI stream some bytes further than was fed; the other no further than the
-- packets of the frame that wanted some last, and once all frames were sent some bytes further than was taken
abbrev pub drained : Bool → ℕ → ℕ
drained draining unsent = if draining then SIZE * unsent + read_ahead else 0

abbrev pub input_reach : SwapMachine → ℕ
input_reach m =
    SIZE * slots_by m.plan.now (status_of m.swapper).plp (wanted_in m.phase m.number * m.plan.now.ticks)
    + drained m.draining m.ran.unsent

abbrev pub reach_of : SwapMachine → ℕ → ℕ
reach_of m input = if input == 0 then fed_of m.feed + read_ahead else input_reach m

-- It gives no more often before it wants bytes: so many records may come, and each has frames that are passed and a
-- frame's units.
abbrev pub left_in : Phase → ℕ → ℕ → Swapper → FrameFeed → ℕ
left_in Records records number s f = records * (2 * frame_bytes) + 2 * (MOST_FRAMES + 1 - number) + frame_bytes
left_in Packets records number s f = records * (2 * frame_bytes) + 2 * (MOST_FRAMES + 1 - number) + (frame_bytes - 1)
left_in Units records number s f = records * (2 * frame_bytes) + 2 * (MOST_FRAMES + 1 - number) + more_units Units s f
left_in Drains records number s f = 500
left_in Rests records number s f = 1 + more_units Rests s f
left_in Done records number s f = 0
left_in (Stopped why) records number s f = 0

abbrev pub left_of : SwapMachine → ℕ
left_of m = left_in m.phase (feed.left_of m.feed) m.number m.swapper m.feed
