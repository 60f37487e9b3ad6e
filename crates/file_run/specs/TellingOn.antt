-- How far a run has come that says what its machine gives.
use Rattle.std.specs.Prelude.{◌≡◌, ◌≢◌, ◌⊎◌, ℕ, ◌+◌, ◌<◌, List, [], ◌∷◌, ◌++◌, length, IsSome, IfSome, Some, option_map}
use Rattle.std.specs.Prelude.{Result, Err}
use Rattle.std.specs.FinMap.{get}
use Rattle.ports.specs.Desk.{State, Held, SameCounts, Keeps, Says, bytes_of, with_name}
use Rattle.file_run.specs.Faults.{ReadsFail, WritesFail}
use Rattle.file_run.specs.Reading.{Reading, given_of, rest_of, longest_file}
use Rattle.file_run.specs.Saying.{Grows, SaysPage}
use Rattle.file_run.specs.declared.page.TheConstants.{PAGE}
use Rattle.file_run.specs.Events.{Event, fed, has_ended, gave}
use Rattle.file_run.specs.Running.{IsRead, GoesOn}
use Rattle.file_run.specs.Telling.{StartsWith, SaidPages, MayWait}
use Rattle.file_run.specs.declared.machine.TheConstants.{PIECE}
use Rattle.file_run.specs.declared.machine.Step.{Step}
use Rattle.file_run.specs.declared.machine.Step.TheVariants.{Give, End}
use Rattle.file_run.specs.declared.stop.RunFault.{RunFault}
use Rattle.file_run.specs.declared.stop.RunFault.TheVariants.{TooLong, ReadFault, WriteFault}
use Rattle.file_run.specs.Steps.{Needs, FallsShort}

-- Nothing was said, or all that waited, since there was no room behind it.
abbrev pub GivesWay : State → State → List ℕ → List ℕ → Type 0
GivesWay old new waiting left = (Keeps old new × (left ≡ waiting))
    ⊎ (Says old new waiting × (left ≡ []) × (PAGE < length waiting + PIECE))

-- A file was opened and read by a reader, its bytes were fed to a machine, and of what it gave these bytes were not
-- said.
pub record Telling {A : Type 0} (Came : List Event → A → Type 0) (next : A → Step) (start now : State) (name : List ℕ)
    (machine : A) (r : Reading) (unsaid : List ℕ) : Type 0 where
  pub events : List Event
  pub came : Came events machine
  pub early : List Event
  pub mid : A
  pub met : Came early mid
  pub parts : gave events ≡ gave early ++ unsaid
  pub going : (unsaid ≡ []) ⊎ ((early ≡ []) ⊎ (next mid ≡ Give))
  pub said : Grows start.said now.said (gave early)
  pub handle : r.handle ≡ length start.opened
  pub opened : now.opened ≡ start.opened ++ given_of r ∷ []
  pub created : now.created ≡ start.created
  pub held : now.held ≡ option_map (with_name name) start.held
  pub present : IfSome start.held (λ h. IsSome (get h.files name))
  pub taken : r.taken ≡ length (fed 0 events)
  pub ended : r.ended ≡ has_ended 0 events
  pub goes_on : GoesOn now r
  pub reads : (h : Held) → start.held ≡ Some h → IsRead (bytes_of h.files name) (rest_of now r) (fed 0 events)
      (has_ended 0 events)
  pub first : (h : Held) → start.held ≡ Some h → StartsWith (bytes_of h.files name) (fed 0 early) (has_ended 0 early)
  pub waits : MayWait (gave early) unsaid events
  pub pages : SaidPages (gave early)

-- A run was begun in which no call failed.
pub record HasBegun {A : Type 0} (Becomes : A → List Event → A → Type 0) (next : A → Step) (inputs : A
    → ℕ) (now : State)
    (machine : A) (r : Reading) (page : List ℕ) : Type 0 where
  pub begin : A
  pub start : State
  pub name : List ℕ
  pub telling : Telling (Becomes begin) next start now name machine r page
  pub one : inputs begin ≡ 1
  pub short : given_of r < longest_file

-- The machine has come to its end, and no call failed.
pub record Finishes {A : Type 0} (next : A → Step) (old new : State) (machine : A) (r : Reading) : Type 0 where
  pub end : next machine ≡ End
  pub short : given_of r < longest_file
  pub counts : SameCounts old new

-- The machine has not come to its end, or not all that it gave could be said, by cause.
abbrev pub Breaks : {A : Type 0} → (A → Step) → State → State → A → Reading → RunFault → Type 0
Breaks next old new machine r (TooLong input) = (input ≡ 0) × (given_of r ≡ longest_file)
    × Needs (next machine) 0 (length r.waiting) × SameCounts old new
Breaks next old new machine r (ReadFault input) = (input ≡ 0) × (given_of r < longest_file)
    × FallsShort (next machine) 0 (length r.waiting) × ReadsFail old new
Breaks next old new machine r WriteFault = (given_of r < longest_file) × WritesFail old new

-- What was left on the page was said, or not.
abbrev pub SaysLeft : State → State → List ℕ → Type 0
SaysLeft old new page = SaysPage old new page × SameCounts old new

abbrev pub LosesLeft : State → State → List ℕ → Type 0
LosesLeft old new page = Keeps old new × WritesFail old new × (page ≢ [])

-- The first fault is how the run ended.
abbrev pub TellsLast : {T : Type 0} → State → State → List ℕ → Result T RunFault → Result T RunFault → Type 0
TellsLast old new page (Err WriteFault) result = (result ≡ Err WriteFault) × (new ≡ old)
TellsLast old new page (Err (ReadFault input)) result = (result ≡ Err (ReadFault input))
    × (SaysLeft old new page ⊎ LosesLeft old new page)
TellsLast old new page told result = ((result ≡ told) × SaysLeft old new page)
    ⊎ ((result ≡ Err WriteFault) × LosesLeft old new page)
