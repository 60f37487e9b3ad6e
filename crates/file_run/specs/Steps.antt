-- What a machine may want.
use Rattle.std.specs.Prelude.{◌<◌, ◌≤◌, ◌≡◌, ◌+◌, ℕ, false, List, length}
use Rattle.file_run.specs.declared.input.TheConstants.{MOST_WANTED}
use Rattle.file_run.specs.Reading.{longest_file}
use Rattle.file_run.specs.Events.{Event, fed, has_ended}
use Rattle.file_run.specs.declared.machine.Step.{Step}
use Rattle.file_run.specs.declared.machine.Step.TheVariants.{Read, Give, End}

-- It wants bytes of this input, and so many are enough.
abbrev pub Suffices : Step → ℕ → ℕ → Type 0
Suffices (Read of least most) input count = (of ≡ input) × (least ≤ count)
Suffices Give input count = ⊥
Suffices End input count = ⊥

-- It wants bytes of this input, and so many are too few.
abbrev pub FallsShort : Step → ℕ → ℕ → Type 0
FallsShort (Read of least most) input count = (of ≡ input) × (count < least)
FallsShort Give input count = ⊥
FallsShort End input count = ⊥

-- It wants bytes of this input, and no fewer than so many.
abbrev pub Needs : Step → ℕ → ℕ → Type 0
Needs (Read of least most) input count = (of ≡ input) × (count ≤ least)
Needs Give input count = ⊥
Needs End input count = ⊥

-- What is wanted is of an input that did not end, at least one byte, and no further than is the reach.
pub record CanBeRead (inputs : ℕ) (events : List Event) (reach : ℕ → ℕ) (input least most : ℕ) : Type 0 where
  pub place : input < inputs
  pub is_open : has_ended input events ≡ false
  pub some : 0 < least
  pub few : least ≤ MOST_WANTED
  pub order : least ≤ most
  pub near : length (fed input events) + most ≤ reach input

-- What it wants can be read.
abbrev pub IsWanted : ℕ → List Event → (ℕ → ℕ) → Step → Type 0
IsWanted inputs events reach (Read input least most) = CanBeRead inputs events reach input least most
IsWanted inputs events reach Give = Unit {0}
IsWanted inputs events reach End = Unit {0}

-- A machine has come from a start.
pub record HasCome {A : Type 0} (Becomes : A → List Event → A → Type 0) (m : A) : Type 0 where
  pub start : A
  pub events : List Event
  pub came : Becomes start events m

-- With so many bytes more at most 2^40 were fed of an input.
pub record HasRoom {A : Type 0} (Becomes : A → List Event → A → Type 0) (m : A) (input count : ℕ) : Type 0 where
  pub start : A
  pub events : List Event
  pub came : Becomes start events m
  pub few : length (fed input events) + count ≤ longest_file
