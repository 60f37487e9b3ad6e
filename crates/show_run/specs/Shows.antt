-- What a command does that shows a file by lines, up to its last line.
use Rattle.std.specs.Prelude.{◌≡◌, ◌⊎◌, ℕ, ◌<◌, ◌≤◌, List, [], Result, Ok, Err, IfSome}
use Rattle.ports.specs.Counts.{Rose}
use Rattle.ports.specs.Desk.{State, SameCounts, bytes_of}
use Rattle.file_run.specs.Faults.{ReadsFail, WritesFail}
use Rattle.file_run.specs.Reading.{longest_file}
use Rattle.file_run.specs.Opening.{Opened, Unopened}
use Rattle.file_run.specs.Saying.{Grows}
use Rattle.file_run.specs.Telling.{ReadsFailAtLeast}
use Rattle.file_run.specs.declared.stop.RunFault.TheVariants.{TooLong, ReadFault, WriteFault}
use Rattle.file_run.specs.declared.stop.RunStop.{RunStop}
use Rattle.file_run.specs.declared.stop.RunStop.TheVariants as run
use Rattle.show_run.specs.declared.stop.ShowStop.{ShowStop}

-- What was opened and read, by outcome. The file is input 0, the only one. Memory runs out before, if it does; that for
-- a record runs out behind its head.
abbrev pub ReadsFile : State → State → List ℕ → ℕ → Result ℕ (RunStop ShowStop) → Type 0
ReadsFile old new name given (Ok count) = Opened old new name given × (given < longest_file)
ReadsFile old new name given (Err (run.Refused why)) = Opened old new name given × (given < longest_file)
ReadsFile old new name given (Err (run.Files (TooLong input))) = (input ≡ 0) × Opened old new name given
    × (given ≡ longest_file)
ReadsFile old new name given (Err (run.Files (ReadFault input))) =
    (input ≡ 0) × ((Unopened old new × (given ≡ 0)) ⊎ (Opened old new name given × (given < longest_file)))
ReadsFile old new name given (Err (run.Files WriteFault)) = Opened old new name given × (given ≤ longest_file)
ReadsFile old new name given (Err run.OutOfMemory) = new ≡ old

-- A fault is told if it came. One of writing came alone, and so did one of reading if the file was not opened; after a
-- later one of reading what waits is said still, which may fail too.
abbrev pub Counted : State → State → Result ℕ (RunStop ShowStop) → Type 0
Counted old new (Err (run.Files (ReadFault input))) = ReadsFailAtLeast old new × (Unopened old new → ReadsFail old new)
Counted old new (Err (run.Files WriteFault)) = WritesFail old new
Counted old new result = SameCounts old new

-- A run over a named file, of which so many bytes were read. Standard output grew by this text, whatever the desk
-- tells, and by the text that a definition asks for, by the file's bytes, how many were read, the outcome, and what was
-- due when reading failed and is not said: that is nothing, unless a fault of writing came too.
pub record Shows (IsText : List ℕ → ℕ → Result ℕ (RunStop ShowStop) → List ℕ → List ℕ → Type 0) (old new : State)
    (name : List ℕ) (result : Result ℕ (RunStop ShowStop)) : Type 0 where
  pub given : ℕ
  pub text : List ℕ
  pub unsaid : List ℕ
  pub reads : ReadsFile old new name given result
  pub grew : Grows old.said new.said text
  pub due : (unsaid ≡ []) ⊎ Rose old.counts.writes new.counts.writes
  pub lines : IfSome old.held (λ held. IsText (bytes_of held.files name) given result text unsaid)
  pub counts : Counted old new result
