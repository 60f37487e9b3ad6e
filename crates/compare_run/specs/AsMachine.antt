-- Two feeds that are compared, as a machine over files. No public clause cites this module.
use Rattle.std.specs.Prelude.{ℕ, ◌==◌, Bool, List, Result, Ok, Err, Option, Some, None, if◌then◌else◌}
use Rattle.file_run.specs.Events.{Event}
use Rattle.compare_run.specs.TallyStandsFor.{counts_in}
use Rattle.compare_run.specs.declared.counts.CompareRan.{CompareRan}
use Rattle.compare_run.specs.Shown.{Shown}
use Rattle.compare_run.specs.declared.machine.CompareMachine.{CompareMachine}
use Rattle.compare_run.specs.declared.stop.CompareStop.{CompareStop}
use Rattle.compare_run.specs.declared.stop.CompareStop.TheVariants.{NoSuperframe, TooManyFrames, Differs}

-- To the first this was done, and then it is the second.
abbrev pub Becomes : CompareMachine → List Event → CompareMachine → Type 0
Becomes start events m = Shown start.plan.now events m

-- what comes of two files that were read to their ends
abbrev pub ending_by : Option ℕ → CompareRan → Result CompareRan CompareStop
ending_by None counts = Ok counts
ending_by (Some frame) counts = Err (Differs frame)

-- what comes of a run that came so far
abbrev pub ending_in : Bool → ℕ → CompareRan → Result CompareRan CompareStop
ending_in done next counts =
    if done then (if next == 0 then Err NoSuperframe else ending_by counts.first counts) else Err TooManyFrames

abbrev pub ending_of : CompareMachine → Result CompareRan CompareStop
ending_of m = ending_in m.done m.next (counts_in m.tally)
