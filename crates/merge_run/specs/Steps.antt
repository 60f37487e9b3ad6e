-- What two feeds and a merger do next. No clause of a run cites this module.
use Rattle.std.specs.Prelude.{ℕ, ◌+◌, ◌*◌}
use Rattle.file_run.specs.declared.machine.Step.{Step}
use Rattle.file_run.specs.declared.machine.Step.TheVariants.{Give, End}
use Rattle.feed_merge.specs.Reading.{reach_by, step_for}
use Rattle.feed_merge.specs.FeedStandsFor as feed
use Rattle.feed_merge.specs.declared.feed.FrameFeed.{FrameFeed}
use Rattle.feed_merge.specs.declared.merger.Merger.{Merger}
use Rattle.merge_run.specs.Shown.{feed_of, more_units, frame_bytes}
use Rattle.merge_run.specs.declared.machine.MergeMachine.{MergeMachine}
use Rattle.merge_run.specs.declared.phase.Phase.{Phase}
use Rattle.merge_run.specs.declared.phase.Phase.TheVariants.{Reads, Gives, Rests, Done}

abbrev pub step_in : Phase → Step → Step
step_in Reads step = step
step_in Gives step = Give
step_in Rests step = Give
step_in Done step = End

abbrev pub step_of : MergeMachine → Step
step_of m = step_in m.phase (step_for m.a m.b)

-- how far an input may have been read
abbrev pub reach_of : MergeMachine → ℕ → ℕ
reach_of m = reach_by m.a m.b

-- It gives no more often before it wants bytes: so many records may come, and each has a frame's units.
abbrev pub left_in : Phase → ℕ → Merger → FrameFeed → ℕ
left_in Reads records g f = records * (2 * frame_bytes) + frame_bytes + 1
left_in Gives records g f = records * (2 * frame_bytes) + more_units Gives g f
left_in Rests records g f = 1 + more_units Rests g f
left_in Done records g f = 0

abbrev pub left_of : MergeMachine → ℕ
left_of m = left_in m.phase (feed.left_of m.a + feed.left_of m.b) m.merger (feed_of m)
