-- How one run of a machine ends.
use Rattle.std.specs.Prelude.{◌≡◌, ℕ, List, Result, Ok, Err}
use Rattle.ports.specs.Desk.{State}
use Rattle.file_run.specs.Events.{Event}
use Rattle.file_run.specs.FileRun.{RunsAll, Stops}
use Rattle.file_run.specs.Sink.{Sink}
use Rattle.file_run.specs.declared.machine.Step.{Step}
use Rattle.file_run.specs.declared.machine.Step.TheVariants.{End}
use Rattle.file_run.specs.declared.stop.RunStop.{RunStop}
use Rattle.file_run.specs.declared.stop.RunStop.TheVariants.{Refused, Files, OutOfMemory}

-- The machine came to its end, and tells this.
pub record ComesToEnd {A R E : Type 0} (old new : State) (sink : Sink) (ins : List (List ℕ)) (reach : A → ℕ → ℕ)
    (next : A → Step) (Came : List Event → A → Type 0) (ending : A → Result R E) (now : A) (told : Result R E) :
    Type 0 where
  pub runs : RunsAll old new sink ins (reach now) (λ events. Came events now)
  pub end : next now ≡ End
  pub told_is : ending now ≡ told

-- A run, by what it answers: the machine came to its end and tells as much; or it did not, by a fault; or nothing was
-- done.
abbrev pub RunsOnce : {A R E : Type 0} → State → State → Sink → List (List ℕ) → (A → ℕ → ℕ) → (A → Step)
    → (List Event → A → Type 0) → (A → Result R E) → A → Result R (RunStop E) → Type 0
RunsOnce old new sink ins reach next Came ending now (Ok ran) = ComesToEnd old new sink ins reach next
    Came ending now (Ok ran)
RunsOnce old new sink ins reach next Came ending now (Err (Refused why)) =
    ComesToEnd old new sink ins reach next Came ending now (Err why)
RunsOnce old new sink ins reach next Came ending now (Err (Files fault)) = Stops old new sink ins reach
    next Came now fault
RunsOnce old new sink ins reach next Came ending now (Err OutOfMemory) = new ≡ old
