-- What holds of the definitions. The functions without a body ensure it.
use Rattle.std.specs.Prelude.{◌≡◌, ◌≢◌, ℕ, List, [], ◌++◌, Some}
use Rattle.std.specs.FinMap.{get}
use Rattle.ports.specs.Desk.{State, Held, Creates}
use Rattle.file_run.specs.Writing.{Appends}

-- No bytes are appended if nothing is done.
abbrev pub AppendsNone : Type 0
AppendsNone = (s : State) (out : ℕ) → Appends s s out []

-- Bytes that were appended and then more are appended as one.
abbrev pub AppendsThen : Type 0
AppendsThen = (a b c : State) (out : ℕ) (front more : List ℕ) → Appends a b out front → Appends b c out more
    → Appends a c out (front ++ more)

-- The file of a name that was created is there and empty, and no other file is another.
pub record IsEmptied (name : List ℕ) (h k : Held) : Type 0 where
  pub names : k.names ≡ h.names
  pub there : get k.files name ≡ Some []
  pub others : (other : List ℕ) → other ≢ name → get k.files other ≡ get h.files other

abbrev pub CreatesEmpty : Type 0
CreatesEmpty = (old new : State) (name : List ℕ) (out : ℕ) (h : Held) → Creates old new name out → old.held ≡ Some h
    → (k : Held)
    × (new.held ≡ Some k) × IsEmptied name h k
