-- Two feeds and a merger as a machine between files. No public clause cites this module.
use Rattle.std.specs.Prelude.{ℕ, ◌==◌, List, Result, Ok, Err, if◌then◌else◌}
use Rattle.file_run.specs.Events.{Event}
use Rattle.merge_run.specs.Shown.{Shown}
use Rattle.merge_run.specs.declared.machine.MergeMachine.{MergeMachine}
use Rattle.merge_run.specs.declared.phase.Phase.{Phase}
use Rattle.merge_run.specs.declared.phase.Phase.TheVariants.{Reads, Gives, Rests, Done}
use Rattle.merge_run.specs.declared.stop.MergeStop.{MergeStop}
use Rattle.merge_run.specs.declared.stop.MergeStop.TheVariants as stop
use Rattle.merge_run.specs.declared.stop.MergeRan.{MergeRan}

-- To the first this was done, and then it is the second.
abbrev pub Becomes : MergeMachine → List Event → MergeMachine → Type 0
Becomes start events m = Shown start.plan.now events m

-- what comes of a run that came so far
abbrev pub ending_in : Phase → ℕ → MergeRan → Result MergeRan MergeStop
ending_in Reads next ran = Err stop.TooManyFrames
ending_in Gives next ran = Err stop.TooManyFrames
ending_in Rests next ran = Err stop.TooManyFrames
ending_in Done next ran = if next == 0 then Err stop.NoSuperframe else Ok ran

abbrev pub ending_of : MergeMachine → Result MergeRan MergeStop
ending_of m = ending_in m.phase m.next m.ran
