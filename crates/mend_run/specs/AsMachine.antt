-- Several feeds and a sender as a machine between files. No public clause cites this module.
use Rattle.std.specs.Prelude.{ℕ, ◌+◌, ◌*◌, ◌==◌, length, List, slice_get, Result, Ok, Err, if◌then◌else◌}
use Rattle.std.specs.Option.{option_map_or}
use Rattle.feed_events.specs.StandsFor.{fed_of}
use Rattle.spaced_frames.specs.StandsFor.{left_of as sender_left, rest_of, most_left}
use Rattle.file_run.specs.Events.{Event}
use Rattle.file_run.specs.FileRun.{read_ahead}
use Rattle.file_run.specs.declared.machine.Step.{Step}
use Rattle.file_run.specs.declared.machine.Step.TheVariants.{Give, End}
use Rattle.mended_frames.specs.StandsFor.{Feed, lent_content}
use Rattle.mend_run.specs.Row.{first_waiting, left_in, wants}
use Rattle.mend_run.specs.Shown.{Shown, ran_of}
use Rattle.mend_run.specs.declared.machine.MendMachine.{MendMachine}
use Rattle.mend_run.specs.declared.phase.Phase.{Phase}
use Rattle.mend_run.specs.declared.phase.Phase.TheVariants as phase
use Rattle.mend_run.specs.declared.stop.MendStop.{MendStop}
use Rattle.mend_run.specs.declared.stop.MendStop.TheVariants as stop
use Rattle.mend_run.specs.declared.stop.MendRan.{MendRan}

-- To the first this was done, and then it is the second.
abbrev pub Becomes : MendMachine → List Event → MendMachine → Type 0
Becomes start done m = Shown start.plan.now (length start.feeds.items) done m

abbrev pub step_in : Phase → List Feed → Step
step_in phase.Looks feeds = wants (first_waiting feeds)
step_in (phase.Sends n from) feeds = Give
step_in phase.Rests feeds = Give
step_in phase.Done feeds = End

abbrev pub step_of : MendMachine → Step
step_of m = step_in m.phase m.feeds.items

-- how far an input may have been read
abbrev pub reach_of : MendMachine → ℕ → ℕ
reach_of m input = option_map_or fed_of (slice_get m.feeds.items input) 0 + read_ahead

-- It gives no more often before it wants bytes: each event that is left makes a frame at most.
abbrev pub left_at : Phase → MendMachine → ℕ
left_at phase.Looks m = (left_in m.feeds.items + 1) * most_left + 1
left_at (phase.Sends n from) m =
    left_in m.feeds.items * most_left + 1 + sender_left m.plan.now m.sender (lent_content from m.mender m.feeds.items)
left_at phase.Rests m = 1 + rest_of m.sender
left_at phase.Done m = 0

abbrev pub left_of : MendMachine → ℕ
left_of m = left_at m.phase m

-- what came of it
abbrev pub ending_of : MendMachine → Result MendRan MendStop
ending_of m = if m.tally.frames == 0 then Err stop.NoFrame else Ok (ran_of m.tally)
