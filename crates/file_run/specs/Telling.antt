-- What a run does that reads one named file and says what its machine gives.
use Rattle.std.specs.Prelude.{◌≡◌, ◌≢◌, ◌⊎◌, ℕ, ◌+◌, ◌-◌, ◌<◌, ◌≤◌, Bool, true, List, [], ◌∷◌, ◌++◌, length, IfSome}
use Rattle.ports.specs.Counts.{Rose, first_of}
use Rattle.ports.specs.Desk.{State, SameCounts, bytes_of}
use Rattle.ports.specs.declared.fault.FaultKind.TheVariants.{Reading}
use Rattle.file_run.specs.Faults.{ReadsFail, WritesFail}
use Rattle.file_run.specs.Opening.{Opened, Unopened}
use Rattle.file_run.specs.Reading.{longest_file}
use Rattle.file_run.specs.Saying.{Grows}
use Rattle.file_run.specs.Events.{Event, Gave, fed, has_ended, gave}
use Rattle.file_run.specs.FileRun.{IsFed}
use Rattle.file_run.specs.Steps.{Needs, FallsShort}
use Rattle.file_run.specs.declared.machine.Step.{Step}
use Rattle.file_run.specs.declared.machine.Step.TheVariants.{Give, End}
use Rattle.file_run.specs.declared.stop.RunFault.{RunFault}
use Rattle.file_run.specs.declared.stop.RunFault.TheVariants.{TooLong, ReadFault, WriteFault}

-- Bytes begin with some, and are no more if these came to the end.
abbrev pub StartsWith : List ℕ → List ℕ → Bool → Type 0
StartsWith bytes front ended = (more : List ℕ) × (bytes ≡ front ++ more) × (ended ≡ true → more ≡ [])

-- how many bytes wait at most to be said, and how many a machine gives at most at once
abbrev pub most_waiting : ℕ
most_waiting = 131072

abbrev pub most_given : ℕ
most_given = 4096

-- Nothing was said, or last a page on which there was no room for a piece.
abbrev pub SaidPages : List ℕ → Type 0
SaidPages said = (said ≡ []) ⊎ ((earlier : List ℕ) × (page : List ℕ) × (said ≡ earlier ++ page)
    × (most_waiting < length page + most_given))

-- When the machine gave for the last time, so little waited that there was room for a piece: of what is not said,
-- nothing was to be said before it. And nothing was said before it was to be.
pub record HadRoom (said : List ℕ) (events : List Event) : Type 0 where
  pub before : List Event
  pub piece : List ℕ
  pub after : List Event
  pub parts : events ≡ before ++ Gave piece ∷ after
  pub last : gave after ≡ []
  pub waiting : List ℕ
  pub waited : gave before ≡ said ++ waiting
  pub room : length waiting + most_given ≤ most_waiting
  pub pages : SaidPages said

-- What is not said is no more than may wait.
pub record MayWait (said unsaid : List ℕ) (events : List Event) : Type 0 where
  pub few : length unsaid ≤ most_waiting
  pub since : (unsaid ≡ []) ⊎ HadRoom said events

-- The named file was opened and read up to a place, and its bytes were fed to a machine. All that it had given at some
-- moment was said, and of what it gave since this was not said, which is no more than may wait.
pub record Tells {A : Type 0} (Came : List Event → A → Type 0) (next : A → Step) (old new : State) (name : List ℕ)
    (now : A)
    (place : ℕ) (unsaid : List ℕ) : Type 0 where
  pub events : List Event
  pub came : Came events now
  pub early : List Event
  pub mid : A
  pub met : Came early mid
  pub parts : gave events ≡ gave early ++ unsaid
  pub going : (unsaid ≡ []) ⊎ ((early ≡ []) ⊎ (next mid ≡ Give))
  pub said : Grows old.said new.said (gave early)
  pub opened : Opened old new name place
  pub inputs : IfSome old.held (λ h. IsFed (bytes_of h.files name) place (fed 0 events) (has_ended 0 events))
  pub first : IfSome old.held (λ h. StartsWith (bytes_of h.files name) (fed 0 early) (has_ended 0 early))
  pub waits : MayWait (gave early) unsaid events

-- A run to the end of its machine: all that it gave was said.
pub record TellsAll {A : Type 0} (Came : List Event → A → Type 0) (next : A → Step) (old new : State) (name : List ℕ)
    (now : A) : Type 0 where
  pub place : ℕ
  pub tells : Tells Came next old new name now place []
  pub end : next now ≡ End
  pub short : place < longest_file
  pub counts : SameCounts old new

-- The file gave as many bytes as none may have, and what the machine had not taken of them is no more than it wanted.
-- All that it gave was said.
pub record TellsTooMuch {A : Type 0} (Came : List Event → A → Type 0) (next : A → Step) (old new : State)
    (name : List ℕ)
    (now : A) : Type 0 where
  pub tells : Tells Came next old new name now longest_file []
  pub wants : Needs (next now) 0 (longest_file - length (fed 0 tells.events))
  pub counts : SameCounts old new

-- The file could not be read on, and the machine wants more than was read. What it gave was said then, unless that
-- failed too:
-- then no more is lost than may wait (`waits`), so nothing of it was to be said before the file failed.
pub record TellsUntilFault {A : Type 0} (Came : List Event → A → Type 0) (next : A → Step) (old new : State)
    (name : List ℕ)
    (now : A) : Type 0 where
  pub place : ℕ
  pub unsaid : List ℕ
  pub tells : Tells Came next old new name now place unsaid
  pub wants : FallsShort (next now) 0 (place - length (fed 0 tells.events))
  pub short : place < longest_file
  pub all : ((unsaid ≡ []) × (new.counts.writes ≡ old.counts.writes))
      ⊎ ((unsaid ≢ []) × Rose old.counts.writes new.counts.writes)

-- The count of reading rose. That of writing may have risen too, but later: the first fault is what it was, or of
-- reading if there was none. That of last lines stayed.
pub record ReadsFailAtLeast (old new : State) : Type 0 where
  pub rose : Rose old.counts.reads new.counts.reads
  pub first : new.counts.first ≡ first_of old.counts.first Reading
  pub reads : old.counts.reads ≤ new.counts.reads
  pub writes : old.counts.writes ≤ new.counts.writes
  pub lines : new.counts.lines ≡ old.counts.lines

-- A run that did not come to the end of its machine, or could not say all, by its cause. After a fault of writing some
-- bytes are not said.
abbrev pub StopsTelling : {A : Type 0} → (List Event → A → Type 0) → (A → Step) → State → State → List ℕ
    → A → RunFault → Type 0
StopsTelling Came next old new name now (TooLong input) = (input ≡ 0) × TellsTooMuch Came next old new name now
StopsTelling Came next old new name now (ReadFault input) = (input ≡ 0)
    × ((ReadsFail old new × Unopened old new) ⊎ (ReadsFailAtLeast old new × TellsUntilFault Came next old new name now))
StopsTelling Came next old new name now WriteFault =
    WritesFail old new × ((place : ℕ) × (unsaid : List ℕ) × Tells Came next old new name now place unsaid
    × (unsaid ≢ [])
    × (place ≤ longest_file))
