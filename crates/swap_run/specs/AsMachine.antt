-- A feed and a swapper as a machine between files. No public clause cites this module.
use Rattle.std.specs.Prelude.{List, Result, Ok, Err}
use Rattle.file_run.specs.Events.{Event}
use Rattle.region_swap.specs.StandsFor.{status_of}
use Rattle.swap_run.specs.Shown.{Shown}
use Rattle.swap_run.specs.declared.machine.SwapMachine.{SwapMachine}
use Rattle.swap_run.specs.declared.phase.Phase.{Phase}
use Rattle.swap_run.specs.declared.phase.Phase.TheVariants.{Stopped}
use Rattle.swap_run.specs.declared.stop.SwapRan.{SwapRan}
use Rattle.swap_run.specs.declared.stop.SwapStop.{SwapStop}

-- To the first this was done, and then it is the second.
abbrev pub Becomes : SwapMachine → List Event → SwapMachine → Type 0
Becomes start events m = Shown start.plan.now (status_of start.swapper).plp events m

-- what comes of a run that came so far
abbrev pub ending_in : Phase → SwapRan → Result SwapRan SwapStop
ending_in (Stopped why) ran = Err why
ending_in phase ran = Ok ran

abbrev pub ending_of : SwapMachine → Result SwapRan SwapStop
ending_of m = ending_in m.phase m.ran
