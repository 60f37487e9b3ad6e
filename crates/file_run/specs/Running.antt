-- How far a run has come.
use Rattle.std.specs.Prelude.{◌≡◌, ◌≢◌, ℕ, ◌+◌, ◌<◌, ◌≤◌, Bool, true, false, List, [], ◌∷◌, ◌++◌, length, map}
use Rattle.std.specs.Prelude.{slice_index_or, None, Some, IsSome, IfSome, option_map}
use Rattle.std.specs.declared.option.Option.{Option}
use Rattle.std.specs.FinMap.{get}
use Rattle.ports.specs.Desk.{State, Held, SameCounts, left_of, out_name, has_run_out}
use Rattle.file_run.specs.Reading.{Reading, given_of, rest_of, longest_file}
use Rattle.file_run.specs.declared.ahead.ReadStop.{ReadStop}
use Rattle.file_run.specs.declared.ahead.ReadStop.TheVariants as stop
use Rattle.file_run.specs.Saying.{Grows}
use Rattle.file_run.specs.Events.{Event, Fed, Ended, Gave, fed, has_ended, gave, OnlyGave}
use Rattle.file_run.specs.Faults.{ReadsFail, WritesFail}
use Rattle.file_run.specs.FileRun.{file_at, OpensInputs, FailsToBegin}
use Rattle.file_run.specs.Sink.{Sink, Into, Aloud, creates, out_of, AreOthers, Begins, IsOpen, Puts}
use Rattle.file_run.specs.declared.output.OpenOutput.{OpenOutput}
use Rattle.file_run.specs.declared.stop.RunFault.{RunFault}
use Rattle.file_run.specs.declared.stop.RunFault.TheVariants.{TooLong, ReadFault, WriteFault}

-- what a run is over: the desk before it, where its bytes go, and the names of the inputs
pub record Start : Type 0 where
  pub desk : State
  pub sink : Sink
  pub ins : List (List ℕ)

abbrev pub start_of : State → Sink → List (List ℕ) → Start
start_of desk sink ins = record { desk = desk; sink = sink; ins = ins }

-- its output, once it was begun
abbrev pub place_of : Start → OpenOutput
place_of b = out_of b.sink b.desk.created

-- a reader that begins with the file of a handle
abbrev pub reading_from : ℕ → Reading
reading_from handle = record { handle = handle; taken = 0; waiting = []; ended = false }

abbrev pub no_reading : Reading
no_reading = reading_from 0

abbrev pub reading_at : List Reading → ℕ → Reading
reading_at readings input = slice_index_or readings input no_reading

-- how many bytes each reader was given
abbrev pub places_of : List Reading → List ℕ
places_of readings = map given_of readings

-- The file that is written has these bytes, and no other file is another.
abbrev pub HasOut : Sink → ℕ → Held → Held → List ℕ → Type 0
HasOut (Into name) out was is bytes = (out_name is out ≡ name) × (get is.files name ≡ Some bytes)
    × ((other : List ℕ) → other ≢ name → get is.files other ≡ get was.files other)
HasOut Aloud out was is bytes = is.files ≡ was.files

-- Standard output grew by these bytes if they go there, and by none if not.
abbrev pub SaysOut : Sink → Option (List (List ℕ)) → Option (List (List ℕ)) → List ℕ → Type 0
SaysOut (Into name) old new bytes = new ≡ old
SaysOut Aloud old new bytes = Grows old new bytes

-- What the desk holds, if it told what it held: these bytes went out, no other file is another, and the handles are of
-- the inputs.
pub record HoldsOut (b : Start) (h : Held) (now : State) (bytes : List ℕ) : Type 0 where
  pub is : Held
  pub held : now.held ≡ Some is
  pub names : (input : ℕ) → input < length b.ins → slice_index_or is.names (length b.desk.opened + input) []
      ≡ slice_index_or b.ins input []
  pub has : HasOut b.sink b.desk.created h is bytes

-- All inputs were opened and read on, and these bytes went out.
pub record Reached (b : Start) (now : State) (readings : List Reading) (bytes : List ℕ) : Type 0 where
  pub opened : now.opened ≡ b.desk.opened ++ places_of readings
  pub all : length readings ≡ length b.ins
  pub handles : (input : ℕ) → input < length readings → (reading_at readings input).handle ≡ length
      b.desk.opened + input
  pub created : now.created ≡ b.desk.created + creates b.sink
  pub said : SaysOut b.sink b.desk.said now.said bytes
  pub untold : b.desk.held ≡ None → now.held ≡ None
  pub tells : (h : Held) → b.desk.held ≡ Some h → HoldsOut b h now bytes

-- These bytes of a file were taken, and if it ended nothing is left.
pub record IsRead (file : List ℕ) (rest : Option (List ℕ)) (taken : List ℕ) (ended : Bool) : Type 0 where
  pub left : List ℕ
  pub rest_is : rest ≡ Some left
  pub parts : file ≡ taken ++ left
  pub end : ended ≡ true → left ≡ []

-- How the files and the events are related, if the desk told its files.
pub record Relates (b : Start) (h : Held) (now : State) (readings : List Reading) (events : List Event) : Type 0 where
  pub present : (input : ℕ) → input < length b.ins → IsSome (get h.files (slice_index_or b.ins input []))
  pub reads : (input : ℕ) → input < length b.ins
      → IsRead (file_at h b.ins input) (rest_of now (reading_at readings input))
      (fed input events) (has_ended input events)

-- Behind the end of a file nothing waits.
abbrev pub IsWhole : Reading → Type 0
IsWhole r = r.ended ≡ true → r.waiting ≡ []

-- A file that was not found to have ended can be read on.
abbrev pub GoesOn : State → Reading → Type 0
GoesOn s r = r.ended ≡ false → has_run_out s r.handle ≡ false

-- A run so far, of which all that was given went out.
pub record Runs (b : Start) (now : State) (readings : List Reading) (reach : ℕ → ℕ) (events : List Event) : Type 0 where
  pub apart : AreOthers b.sink b.ins
  pub reached : Reached b now readings (gave events)
  pub counts : SameCounts b.desk now
  pub short : (input : ℕ) → input < length readings → given_of (reading_at readings input) < longest_file
  pub taken : (input : ℕ) → input < length readings → (reading_at readings input).taken ≡ length (fed input events)
  pub ended : (input : ℕ) → input < length readings → (reading_at readings input).ended ≡ has_ended input events
  pub within : (input : ℕ) → input < length readings → given_of (reading_at readings input) ≤ reach input
  pub whole : (input : ℕ) → input < length readings → IsWhole (reading_at readings input)
  pub goes_on : (input : ℕ) → input < length readings → GoesOn now (reading_at readings input)
  pub relates : (h : Held) → b.desk.held ≡ Some h → Relates b h now readings events

-- A machine gave a piece, which went behind the bytes that waited.
pub record Gathers {A : Type 0} (Becomes : A → List Event → A → Type 0) (old new : A) (was is : List ℕ) : Type 0 where
  pub piece : List ℕ
  pub becomes : (start : A) (events : List Event) → Becomes start events old
      → Becomes start (events ++ Gave piece ∷ []) new
  pub behind : is ≡ was ++ piece

-- Of the bytes that waited a front went out, and the others wait still.
pub record PutsSome (out : OpenOutput) (old new : State) (was is : List ℕ) : Type 0 where
  pub front : List ℕ
  pub parts : was ≡ front ++ is
  pub puts : Puts out old new front

-- Events went on, of which each gives, and all that was given went out but for these bytes, which wait still.
pub record Drains {A : Type 0} (Becomes : A → List Event → A → Type 0) (out : OpenOutput) (old new : A) (was is : State)
    (waiting : List ℕ) : Type 0 where
  pub late : List Event
  pub only : OnlyGave late
  pub becomes : (start : A) (events : List Event) → Becomes start events old → Becomes start (events ++ late) new
  pub front : List ℕ
  pub parts : gave late ≡ front ++ waiting
  pub puts : Puts out was is front

-- The same, and some bytes could not go out.
pub record DrainsFront {A : Type 0} (Becomes : A → List Event → A → Type 0) (out : OpenOutput) (old new : A)
    (was is : State) : Type 0 where
  pub more : List ℕ
  pub some : more ≢ []
  pub drains : Drains Becomes out old new was is more

-- bytes of an input were taken, or it ended
abbrev pub IsTaken : Event → ℕ → Option (List ℕ) → Option (List ℕ) → ℕ → Type 0
IsTaken (Fed to bytes) input old new count = (to ≡ input) × (count ≡ length bytes)
    × (old ≡ option_map (λ rest. bytes ++ rest) new)
IsTaken (Ended to bytes) input old new count = (to ≡ input) × (count ≡ length bytes)
    × (old ≡ option_map (λ rest. bytes ++ rest) new) × IfSome new (λ rest. rest ≡ [])
IsTaken (Gave bytes) input old new count = ⊥

-- whether an input ended is told by its reader
abbrev pub IsMarked : Event → Bool → Bool → Type 0
IsMarked (Fed to bytes) was is = is ≡ was
IsMarked (Ended to bytes) was is = is ≡ true
IsMarked (Gave bytes) was is = ⊥

-- A machine was fed by a reader.
pub record Feeds {A : Type 0} (Becomes : A → List Event → A → Type 0) (old new : A) (before after : State)
    (was is : Reading)
    (input : ℕ) : Type 0 where
  pub event : Event
  pub becomes : (start : A) (events : List Event) → Becomes start events old → Becomes start (events ++ event ∷ []) new
  pub count : ℕ
  pub taken : is.taken ≡ was.taken + count
  pub marked : IsMarked event was.ended is.ended
  pub whole : IsWhole is
  pub goes_on : GoesOn after is
  pub is_taken : IsTaken event input (rest_of before was) (rest_of after is) count

-- What the desk holds after inputs were opened, if it told what it held.
pub record HoldsIns (old new : State) (h : Held) (ins : List (List ℕ)) : Type 0 where
  pub is : Held
  pub held : new.held ≡ Some is
  pub files : is.files ≡ h.files
  pub names : (input : ℕ) → input < length ins → slice_index_or is.names (length old.opened + input) []
      ≡ slice_index_or ins input []
  pub present : (input : ℕ) → input < length ins → IsSome (get h.files (slice_index_or ins input []))
  pub left : (input : ℕ) → input < length ins → left_of new (length old.opened + input) ≡ Some (file_at h ins input)

-- The inputs were opened, in turn, each for a reader that took nothing.
pub record AreOpened (old new : State) (ins : List (List ℕ)) (readings : List Reading) : Type 0 where
  pub opened : new.opened ≡ old.opened ++ places_of readings
  pub all : length readings ≡ length ins
  pub begin : (input : ℕ) → input < length readings → reading_at readings input ≡ reading_from
      (length old.opened + input)
  pub fresh : (input : ℕ) → input < length readings → has_run_out new (length old.opened + input) ≡ false
  pub created : new.created ≡ old.created
  pub said : new.said ≡ old.said
  pub counts : SameCounts old new
  pub untold : old.held ≡ None → new.held ≡ None
  pub tells : (h : Held) → old.held ≡ Some h → HoldsIns old new h ins

-- The output was begun.
pub record IsBegun (old new : State) (sink : Sink) (out : OpenOutput) : Type 0 where
  pub begins : Begins sink old new out
  pub there : IsOpen out new
  pub counts : SameCounts old new

-- An input could not be opened.
abbrev pub FailsToOpen : State → State → List (List ℕ) → RunFault → Type 0
FailsToOpen old new ins (TooLong input) = ⊥
FailsToOpen old new ins (ReadFault input) = ReadsFail old new × OpensInputs old new ins input
FailsToOpen old new ins WriteFault = ⊥

-- The output could not be begun, after inputs were opened.
abbrev pub FailsToBeginFor : State → State → Sink → RunFault → Type 0
FailsToBeginFor old new sink (TooLong input) = ⊥
FailsToBeginFor old new sink (ReadFault input) = ⊥
FailsToBeginFor old new sink WriteFault = (start : State) (ins : List (List ℕ)) (readings : List Reading)
    → AreOpened start old ins readings → WritesFail start new × FailsToBegin sink start new ins

-- There is a run so far, and the machine is where it came to.
pub record IsRunning {A : Type 0} (Becomes : List Event → A → Type 0) (reach : A → ℕ → ℕ) (b : Start)
    (now : State) (machine : A)
    (readings : List Reading) : Type 0 where
  pub events : List Event
  pub came : Becomes events machine
  pub runs : Runs b now readings (reach machine) events

-- why a run stops if an input could not be read on
abbrev pub read_fault : ℕ → ReadStop → RunFault
read_fault input stop.TooLong = TooLong input
read_fault input stop.Fault = ReadFault input

-- A reader has taken what a machine was fed of an input.
pub record IsReader {A : Type 0} (Becomes : A → List Event → A → Type 0) (m : A) (input : ℕ) (r : Reading) :
    Type 0 where
  pub start : A
  pub events : List Event
  pub came : Becomes start events m
  pub taken : r.taken ≡ length (fed input events)
