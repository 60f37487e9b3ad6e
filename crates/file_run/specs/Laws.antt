-- What one event more tells of inputs and of the output, and which fault is told. Functions without a body ensure it.
use Rattle.std.specs.Prelude.{◌≡◌, ◌≢◌, ℕ, true, List, [], ◌∷◌, ◌++◌, None}
use Rattle.ports.specs.Desk.{State}
use Rattle.file_run.specs.Faults.{ReadsFail, WritesFail}
use Rattle.file_run.specs.Events.{Event, Fed, Ended, Gave, fed, has_ended, gave, OnlyGave}
use Rattle.file_run.specs.Telling.{ReadsFailAtLeast}

-- An input was fed: it has these bytes more, and no other input anything, nor an end.
pub record FedMore (input : ℕ) (bytes : List ℕ) (events : List Event) : Type 0 where
  pub here : fed input (events ++ Fed input bytes ∷ []) ≡ fed input events ++ bytes
  pub others : (other : ℕ) → other ≢ input → fed other (events ++ Fed input bytes ∷ []) ≡ fed other events
  pub ended : (other : ℕ) → has_ended other (events ++ Fed input bytes ∷ []) ≡ has_ended other events
  pub gave : gave (events ++ Fed input bytes ∷ []) ≡ gave events

-- An input ended: it has these bytes more and an end, and no other input anything.
pub record EndedMore (input : ℕ) (bytes : List ℕ) (events : List Event) : Type 0 where
  pub here : fed input (events ++ Ended input bytes ∷ []) ≡ fed input events ++ bytes
  pub others : (other : ℕ) → other ≢ input → fed other (events ++ Ended input bytes ∷ []) ≡ fed other events
  pub ended : has_ended input (events ++ Ended input bytes ∷ []) ≡ true
  pub others_ended : (other : ℕ) → other ≢ input → has_ended other (events ++ Ended input bytes ∷ []) ≡ has_ended
      other events
  pub gave : gave (events ++ Ended input bytes ∷ []) ≡ gave events

-- It only gave, as much as it gave, and then what it gave since.
pub record GaveMore (events late : List Event) : Type 0 where
  pub fed : (input : ℕ) → fed input (events ++ late) ≡ fed input events
  pub ended : (input : ℕ) → has_ended input (events ++ late) ≡ has_ended input events
  pub gave : gave (events ++ late) ≡ gave events ++ gave late

-- the same of one piece
pub record GavePiece (bytes : List ℕ) (events : List Event) : Type 0 where
  pub fed : (input : ℕ) → fed input (events ++ Gave bytes ∷ []) ≡ fed input events
  pub ended : (input : ℕ) → has_ended input (events ++ Gave bytes ∷ []) ≡ has_ended input events
  pub gave : gave (events ++ Gave bytes ∷ []) ≡ gave events ++ bytes

-- So it is for each event.
pub record EventsTell : Type 0 where
  pub fed : (input : ℕ) (bytes : List ℕ) (events : List Event) → FedMore input bytes events
  pub ended : (input : ℕ) (bytes : List ℕ) (events : List Event) → EndedMore input bytes events
  pub given : (bytes : List ℕ) (events : List Event) → GavePiece bytes events
  pub late : (events late : List Event) → OnlyGave late → GaveMore events late

-- If nothing had failed, and writing fails and then reading, that is no run which tells a fault of reading.
abbrev pub FirstIsTold : Type 0
FirstIsTold = (old mid new : State) → old.counts.first ≡ None → WritesFail old mid → ReadsFail mid new
    → ¬ (ReadsFailAtLeast old new)
