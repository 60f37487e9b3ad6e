-- What a command does by the bytes of its files alone, and how a run over a desk ends that does it.
use Rattle.std.specs.Prelude.{◌≡◌, ◌≢◌, ◌⊎◌, ℕ, ◌-◌, ◌<◌, ◌≤◌, List, [], ◌++◌, length, slice_index, slice_index_or}
use Rattle.std.specs.Prelude.{Result, Ok, Err, IsSome, IfSome}
use Rattle.std.specs.FinMap.{get}
use Rattle.ports.specs.Desk.{State, SameCounts}
use Rattle.file_run.specs.Faults.{ReadsFail, WritesFail}
use Rattle.file_run.specs.Reading.{longest_file}
use Rattle.file_run.specs.Events.{Event, fed, gave, OnlyGave}
use Rattle.file_run.specs.FileRun.{file_at, OpensInputs, FailsToBegin, Passes, AllShort, AreFed}
pub use Rattle.file_run.specs.Sink.{Sink, Into, Aloud}
use Rattle.file_run.specs.Steps.{Needs, FallsShort}
use Rattle.file_run.specs.declared.machine.Step.{Step}
use Rattle.file_run.specs.declared.machine.Step.TheVariants.{Give, End}
use Rattle.file_run.specs.declared.stop.RunFault.TheVariants.{TooLong, ReadFault, WriteFault}
use Rattle.file_run.specs.declared.stop.RunStop.{RunStop}
use Rattle.file_run.specs.declared.stop.RunStop.TheVariants.{Refused, Files, OutOfMemory}

-- A command, by what it tells: which files, how far each was read, and which bytes of the output are right then.
-- `Files` tells here that its output was begun, and of a fault only what is left then; of `OutOfMemory` nothing is
-- asked.
abbrev pub Work : Type 0 → Type 0 → Type 1
Work R E = (ℕ → List ℕ) → Result R (RunStop E) → List ℕ → List ℕ → Type 0

-- Each file was read to its end.
abbrev pub AreWhole : (ℕ → List ℕ) → List ℕ → Type 0
AreWhole files places = (input : ℕ) → input < length places → slice_index places input ≡ length (files input)

-- A run came so far: by some files, those of the desk if it tells, this is as it must be.
pub record Does (work : (ℕ → List ℕ) → List ℕ → List ℕ → Type 0) (old new : State) (sink : Sink) (ins : List (List ℕ)) :
    Type 0 where
  pub files : ℕ → List ℕ
  pub places : List ℕ
  pub bytes : List ℕ
  pub does : work files places bytes
  pub all : length places ≡ length ins
  pub within : (input : ℕ) → input < length ins → slice_index places input ≤ length (files input)
  pub passes : Passes sink old new ins places bytes
  pub told : IfSome old.held (λ h. (files ≡ file_at h ins)
      × ((input : ℕ) → input < length ins → IsSome (get h.files (slice_index_or ins input []))))

-- the same below the limit of a file
abbrev pub DoesShort : ((ℕ → List ℕ) → List ℕ → List ℕ → Type 0) → State → State → Sink → List (List ℕ) → Type 0
DoesShort work old new sink ins = Does (λ files places bytes. AllShort places × work files places bytes)
    old new sink ins

-- the same of an input that gave as many bytes as no file may have
abbrev pub DoesLong : ((ℕ → List ℕ) → List ℕ → List ℕ → Type 0) → State → State → Sink → List (List ℕ) → ℕ → Type 0
DoesLong work old new sink ins input =
    Does (λ files places bytes. (slice_index places input ≡ longest_file) × work files places bytes) old new sink ins

-- How a run ends that does a work, by what it tells: to the end, or by a refusal, and then no call failed; or by a
-- fault, which is of the kind that is told, before anything was read or with the output begun; or for want of memory,
-- and then nothing was done.
abbrev pub Ends : {R E : Type 0} → Work R E → State → State → Sink → List (List ℕ) → Result R (RunStop E) → Type 0
Ends work old new sink ins (Ok ran) = SameCounts old new × DoesShort (λ files. work files (Ok ran)) old new sink ins
Ends work old new sink ins (Err (Refused why)) =
    SameCounts old new × DoesShort (λ files. work files (Err (Refused why))) old new sink ins
Ends work old new sink ins (Err (Files (TooLong input))) = SameCounts old new × (input < length ins)
    × DoesLong (λ files. work files (Err (Files (TooLong input)))) old new sink ins input
Ends work old new sink ins (Err (Files (ReadFault input))) = ReadsFail old new × (OpensInputs old new ins input
    ⊎ ((input < length ins) × DoesShort (λ files. work files (Err (Files (ReadFault input)))) old new sink ins))
Ends work old new sink ins (Err (Files WriteFault)) = WritesFail old new × (FailsToBegin sink old new ins
    ⊎ DoesShort (λ files. work files (Err (Files WriteFault))) old new sink ins)
Ends work old new sink ins (Err OutOfMemory) = new ≡ old

-- ---- what a machine owes for it: lists of bytes alone

-- It came to its end: what it tells is right.
abbrev pub IsRightAtEnd : {R E : Type 0} → Work R E → (ℕ → List ℕ) → List ℕ → List ℕ → Result R E → Type 0
IsRightAtEnd work files places bytes (Ok ran) = work files (Ok ran) places bytes
IsRightAtEnd work files places bytes (Err why) = work files (Err (Refused why)) places bytes

-- No input was read further than is the machine's reach.
abbrev pub AreWithin : ℕ → List ℕ → (ℕ → ℕ) → Type 0
AreWithin inputs places reach = (input : ℕ) → input < inputs → slice_index places input ≤ reach input

-- It gave since the last reading, and of that a front was written, but not all.
pub record GaveSome {A : Type 0} (reach : A → ℕ → ℕ) (next : A → Step) (Came : List Event → A → Type 0)
    (inputs : ℕ) (places : List ℕ)
    (events : List Event) (now : A) (bytes : List ℕ) : Type 0 where
  pub mid : A
  pub gives : next mid ≡ Give
  pub came : Came events mid
  pub late : List Event
  pub only : OnlyGave late
  pub came_late : Came (events ++ late) now
  pub within : AreWithin inputs places (reach mid)
  pub front : List ℕ
  pub is : bytes ≡ gave events ++ front
  pub more : List ℕ
  pub some : more ≢ []
  pub parts : gave (events ++ late) ≡ bytes ++ more

-- A machine does a work: whatever was done to it by the bytes of some files, it is right at its end, right if it wants
-- more of an input that cannot be read on, and right if what it gave cannot be written.
pub record DoesWork {A R E : Type 0} (work : Work R E) (inputs : ℕ)
    (reach : A → ℕ → ℕ) (next : A → Step) (Came : List Event → A → Type 0) (ending : A → Result R E) : Type 0 where
  pub ends : (files : ℕ → List ℕ) (places : List ℕ) (events : List Event) (now : A) → length places ≡ inputs
      → AreFed inputs files places events → AreWithin inputs places (reach now) → Came events now → next now ≡ End
      → IsRightAtEnd work files places (gave events) (ending now)
  pub too_long : (files : ℕ → List ℕ) (places : List ℕ) (events : List Event) (now : A) (input : ℕ)
      → length places ≡ inputs
      → AreFed inputs files places events → AreWithin inputs places (reach now) → Came events now → input < inputs
      → slice_index places input ≡ longest_file
      → Needs (next now) input (slice_index places input - length (fed input events))
      → work files (Err (Files (TooLong input))) places (gave events)
  pub unread : (files : ℕ → List ℕ) (places : List ℕ) (events : List Event) (now : A) (input : ℕ)
      → length places ≡ inputs
      → AreFed inputs files places events → AreWithin inputs places (reach now) → Came events now → input < inputs
      → FallsShort (next now) input (slice_index places input - length (fed input events))
      → work files (Err (Files (ReadFault input))) places (gave events)
  pub unwritten : (files : ℕ → List ℕ) (places : List ℕ) (events : List Event) (now : A) (bytes : List ℕ)
      → length places ≡ inputs
      → AreFed inputs files places events → GaveSome reach next Came inputs places events now bytes
      → work files (Err (Files WriteFault)) places bytes
