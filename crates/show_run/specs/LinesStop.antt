-- How the lines of a machine are told of a file. No public clause cites this module.
use Rattle.std.specs.Prelude.{◌≡◌, ℕ, List}
use Rattle.ports.specs.Desk.{State}
use Rattle.file_run.specs.Events.{Event}
use Rattle.file_run.specs.Telling.{StopsTelling}
use Rattle.file_run.specs.declared.machine.Step.{Step}
use Rattle.file_run.specs.declared.stop.RunStop.{RunStop}
use Rattle.file_run.specs.declared.stop.RunStop.TheVariants as run
use Rattle.show_run.specs.declared.stop.ShowStop.{ShowStop}

-- Why the lines were not told to the end.
abbrev pub StopsLines : {A : Type 0} → (List Event → A → Type 0) → (A → Step) → State → State → List ℕ
    → A → RunStop ShowStop
    → Type 0
StopsLines Came next old new name now (run.Refused why) = ⊥
StopsLines Came next old new name now (run.Files fault) = StopsTelling Came next old new name now fault
StopsLines Came next old new name now run.OutOfMemory = new ≡ old
