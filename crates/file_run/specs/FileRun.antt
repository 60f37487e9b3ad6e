-- What a run over files does, from the opening of its inputs on.
use Rattle.std.specs.Prelude.{◌≡◌, ◌≢◌, ◌⊎◌, ℕ, ◌+◌, ◌-◌, ◌<◌, ◌≤◌, Bool, true, List, [], ◌++◌, length, slice_index}
use Rattle.std.specs.Prelude.{slice_index_or, Option, None, Some, IsSome, IfSome}
use Rattle.std.specs.FinMap.{get}
use Rattle.ports.specs.Desk.{State, Held, SameCounts, bytes_of}
use Rattle.file_run.specs.Faults.{ReadsFail, WritesFail}
use Rattle.file_run.specs.Reading.{longest_file}
use Rattle.file_run.specs.Saying.{Grows}
use Rattle.file_run.specs.Events.{Event, fed, has_ended, gave, OnlyGave}
use Rattle.file_run.specs.Sink.{Sink, Into, Aloud}
use Rattle.file_run.specs.Steps.{Needs, FallsShort}
use Rattle.file_run.specs.declared.machine.Step.{Step}
use Rattle.file_run.specs.declared.machine.Step.TheVariants.{Give}
use Rattle.file_run.specs.declared.stop.RunFault.{RunFault}
use Rattle.file_run.specs.declared.stop.RunFault.TheVariants.{TooLong, ReadFault, WriteFault}

-- how many bytes of an input wait at most, of a command that looks at each as it comes
abbrev pub read_ahead : ℕ
read_ahead = 65536

-- No input is the output.
abbrev pub AreApart : List ℕ → List (List ℕ) → Type 0
AreApart out ins = (input : ℕ) → input < length ins → slice_index_or ins input [] ≢ out

-- the file of an input, by the names of the inputs
abbrev pub file_at : Held → List (List ℕ) → ℕ → List ℕ
file_at h ins input = bytes_of h.files (slice_index_or ins input [])

-- No file has changed but that of a name.
abbrev pub OtherFiles : List ℕ → Option Held → Option Held → Type 0
OtherFiles name None new = new ≡ None
OtherFiles name (Some h) new = (k : Held) × (new ≡ Some k)
    × ((other : List ℕ) → other ≢ name → get k.files other ≡ get h.files other)

-- No file has changed.
abbrev pub SameFiles : Option Held → Option Held → Type 0
SameFiles None new = new ≡ None
SameFiles (Some h) new = (k : Held) × (new ≡ Some k) × (k.files ≡ h.files)

-- The handle of each of these places is of the input of its number, if the desk tells.
abbrev pub AreNamed : State → State → List (List ℕ) → List ℕ → Type 0
AreNamed old new ins places = IfSome old.held (λ h. (k : Held) × (new.held ≡ Some k)
    × ((input : ℕ) → input < length places → slice_index_or k.names (length old.opened + input) [] ≡ slice_index_or
    ins input []))

-- Nothing was read.
abbrev pub AreStarts : List ℕ → Type 0
AreStarts places = (input : ℕ) → input < length places → slice_index places input ≡ 0

-- Each place is below the limit.
abbrev pub AllShort : List ℕ → Type 0
AllShort places = (input : ℕ) → input < length places → slice_index places input < longest_file

-- So many inputs were opened, in turn, and nothing was read.
pub record OpensInputs (old new : State) (ins : List (List ℕ)) (count : ℕ) : Type 0 where
  pub places : List ℕ
  pub opened : new.opened ≡ old.opened ++ places
  pub some : length places ≡ count
  pub few : count < length ins
  pub starts : AreStarts places
  pub names : AreNamed old new ins places
  pub files : SameFiles old.held new.held
  pub created : new.created ≡ old.created
  pub said : new.said ≡ old.said

-- All inputs were opened, in turn, nothing was read, and then the output was not created. Nothing is known of it.
pub record FailsToCreateOutput (old new : State) (out : List ℕ) (ins : List (List ℕ)) : Type 0 where
  pub places : List ℕ
  pub opened : new.opened ≡ old.opened ++ places
  pub all : length places ≡ length ins
  pub starts : AreStarts places
  pub names : AreNamed old new ins places
  pub files : OtherFiles out old.held new.held
  pub created : new.created ≡ old.created
  pub said : new.said ≡ old.said

-- All inputs were opened, and then the output was not created. Standard output needs not be.
abbrev pub FailsToBegin : Sink → State → State → List (List ℕ) → Type 0
FailsToBegin (Into out) old new ins = FailsToCreateOutput old new out ins
FailsToBegin Aloud old new ins = ⊥

-- All inputs were opened, in turn, and read up to these places. Then the output was created, and the desk holds it so,
-- if it tells: by what it held at first, the output has these bytes.
pub record Works (old new : State) (out : List ℕ) (ins : List (List ℕ)) (places : List ℕ) (HoldsOut : Held → List ℕ
    → Type 0) : Type 0 where
  pub opened : new.opened ≡ old.opened ++ places
  pub all : length places ≡ length ins
  pub names : AreNamed old new ins places
  pub files : OtherFiles out old.held new.held
  pub created : new.created ≡ old.created + 1
  pub said : new.said ≡ old.said
  pub holds : IfSome old.held (λ h. (k : Held) × (new.held ≡ Some k)
      × ((bytes : List ℕ) × (get k.files out ≡ Some bytes) × HoldsOut h bytes))

-- All inputs were opened, in turn, and read up to these places; no file changed, and none was created. Standard output
-- grew by a text.
pub record SaysOf (old new : State) (ins : List (List ℕ)) (places text : List ℕ) : Type 0 where
  pub opened : new.opened ≡ old.opened ++ places
  pub all : length places ≡ length ins
  pub names : AreNamed old new ins places
  pub files : SameFiles old.held new.held
  pub created : new.created ≡ old.created
  pub said : Grows old.said new.said text

-- The inputs were opened and read up to these places, and these bytes went out; nothing else was done.
abbrev pub Passes : Sink → State → State → List (List ℕ) → List ℕ → List ℕ → Type 0
Passes (Into out) old new ins places bytes = Works old new out ins places (λ h is. is ≡ bytes)
Passes Aloud old new ins places bytes = SaysOf old new ins places bytes

-- These bytes of a file were taken, and so many read; if it ended, they are all.
pub record IsFed (file : List ℕ) (place : ℕ) (taken : List ℕ) (ended : Bool) : Type 0 where
  pub more : List ℕ
  pub parts : file ≡ taken ++ more
  pub ahead : length taken ≤ place
  pub within : place ≤ length file
  pub end : ended ≡ true → more ≡ []

-- These events were fed from these files, read up to these places.
abbrev pub AreFed : ℕ → (ℕ → List ℕ) → List ℕ → List Event → Type 0
AreFed inputs files places events = (input : ℕ) → input < inputs
    → IsFed (files input) (slice_index places input) (fed input events) (has_ended input events)

-- Of each input no more was taken than was read; and if it ended, as much.
abbrev pub AreTaken : ℕ → List ℕ → List Event → Type 0
AreTaken inputs places events = (input : ℕ) → input < inputs → (length (fed input events) ≤ slice_index places input)
    × (has_ended input events ≡ true → slice_index places input ≡ length (fed input events))

-- Where a run stands: what was done to its machine, what was read of each file, if the desk tells, and which bytes went
-- out.
pub record Stands (old new : State) (sink : Sink) (ins : List (List ℕ)) (reach : ℕ → ℕ) (Came : List Event → Type 0)
    (Holds : List Event → List ℕ → Type 0) : Type 0 where
  pub events : List Event
  pub came : Came events
  pub places : List ℕ
  pub all : length places ≡ length ins
  pub bytes : List ℕ
  pub passes : Passes sink old new ins places bytes
  pub holds : Holds events bytes
  pub within : (input : ℕ) → input < length ins → slice_index places input ≤ reach input
  pub short : (input : ℕ) → input < length ins → slice_index places input ≤ longest_file
  pub taken : AreTaken (length ins) places events
  pub present : IfSome old.held (λ h. (input : ℕ) → input < length ins
      → IsSome (get h.files (slice_index_or ins input [])))
  pub inputs : IfSome old.held (λ h. AreFed (length ins) (file_at h ins) places events)

-- all that was given went out
abbrev pub HoldsAll : List Event → List ℕ → Type 0
HoldsAll events bytes = bytes ≡ gave events

-- A run to the end of its machine.
pub record RunsAll (old new : State) (sink : Sink) (ins : List (List ℕ)) (reach : ℕ → ℕ)
    (Came : List Event → Type 0) : Type 0 where
  pub stands : Stands old new sink ins reach Came HoldsAll
  pub short : AllShort stands.places
  pub counts : SameCounts old new

-- An input gave as many bytes as no file may have. What the machine had not taken of them is no more than it wanted,
-- and it never looked at that.
pub record GivesTooMuch (old new : State) (sink : Sink) (ins : List (List ℕ)) (reach : ℕ → ℕ) (next : Step)
    (Came : List Event → Type 0) (input : ℕ) : Type 0 where
  pub stands : Stands old new sink ins reach Came HoldsAll
  pub place : input < length ins
  pub wants : Needs next input (slice_index stands.places input - length (fed input stands.events))
  pub gave : slice_index stands.places input ≡ longest_file
  pub counts : SameCounts old new

-- An input, of which the machine wants more than was read, could not be read on. All that was given went out.
pub record FailsToRead (old new : State) (sink : Sink) (ins : List (List ℕ)) (reach : ℕ → ℕ) (next : Step)
    (Came : List Event → Type 0) (input : ℕ) : Type 0 where
  pub stands : Stands old new sink ins reach Came HoldsAll
  pub place : input < length ins
  pub wants : FallsShort next input (slice_index stands.places input - length (fed input stands.events))
  pub short : AllShort stands.places

-- What a machine gave could not go out: it gives since the last reading, before which all went out, and a front of what
-- it gave since, but not all. So no input was read further than was the machine's reach then.
pub record StopsWriting {A : Type 0} (old new : State) (sink : Sink) (ins : List (List ℕ)) (reach : A
    → ℕ → ℕ) (next : A → Step)
    (Came : List Event → A → Type 0) (now : A) : Type 0 where
  pub mid : A
  pub gives : next mid ≡ Give
  pub late : List Event
  pub only : OnlyGave late
  pub front : List ℕ
  pub more : List ℕ
  pub some : more ≢ []
  pub parts : gave late ≡ front ++ more
  pub stands : Stands old new sink ins (reach mid) (λ events. Came events mid × Came (events ++ late) now)
      (λ events bytes. bytes ≡ gave events ++ front)
  pub short : AllShort stands.places

-- A run that did not come to the end of its machine, by its cause.
abbrev pub Stops : {A : Type 0} → State → State → Sink → List (List ℕ) → (A → ℕ → ℕ) → (A → Step)
    → (List Event → A → Type 0)
    → A → RunFault → Type 0
Stops old new sink ins reach next Came now (TooLong input) =
    GivesTooMuch old new sink ins (reach now) (next now) (λ events. Came events now) input
Stops old new sink ins reach next Came now (ReadFault input) = ReadsFail old new
    × (OpensInputs old new ins input ⊎ FailsToRead old new sink ins (reach now) (next now) (λ events. Came events now)
    input)
Stops old new sink ins reach next Came now WriteFault =
    WritesFail old new × (FailsToBegin sink old new ins ⊎ StopsWriting old new sink ins reach next Came now)
