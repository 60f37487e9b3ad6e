-- How a file is read ahead.
use Rattle.std.specs.Prelude.{◌≡◌, ◌≢◌, ℕ, ◌+◌, ◌-◌, ◌^◌, ◌<◌, ◌≤◌, Bool, if◌then◌else◌, List, ◌++◌, length}
use Rattle.std.specs.Prelude.{slice_index, slice_set, Option, option_map}
use Rattle.ports.specs.Desk.{State, SameCounts, left_of, has_run_out}
use Rattle.file_run.specs.Faults.{ReadsFail}
use Rattle.file_run.specs.declared.ahead.ReadStop.{ReadStop}
use Rattle.file_run.specs.declared.ahead.ReadStop.TheVariants.{TooLong, Fault}

-- the handle of a file, how many bytes were taken from it, the bytes that were read behind them, and whether it was
-- found to have ended
pub record Reading : Type 0 where
  pub handle : ℕ
  pub taken : ℕ
  pub waiting : List ℕ
  pub ended : Bool

-- how many bytes reads gave
abbrev pub given_of : Reading → ℕ
given_of r = r.taken + length r.waiting

-- the bytes of the file behind those that were taken, if the desk tells
abbrev pub rest_of : State → Reading → Option (List ℕ)
rest_of s r = option_map (λ left. r.waiting ++ left) (left_of s r.handle)

-- A file was read on, and nothing else was done. Of counts it says nothing.
pub record ReadsOn (old new : State) (was is : Reading) : Type 0 where
  pub handle : is.handle ≡ was.handle
  pub later : given_of was ≤ given_of is
  pub held : new.held ≡ old.held
  pub said : new.said ≡ old.said
  pub opened : new.opened ≡ slice_set old.opened was.handle
      (slice_index old.opened was.handle + (given_of is - given_of was))
  pub created : new.created ≡ old.created
  -- so every other handle has left what it had, and is at its end only if it was
  pub others : (other : ℕ) → other ≢ was.handle → left_of new other ≡ left_of old other
  pub others_end : (other : ℕ) → other ≢ was.handle → has_run_out new other ≡ has_run_out old other

-- No byte was taken.
pub record TakesNone (old new : State) (was is : Reading) : Type 0 where
  pub taken : is.taken ≡ was.taken
  pub rest : rest_of new is ≡ rest_of old was
  pub ended : is.ended ≡ was.ended

-- a file that gives as many bytes is too long
abbrev pub longest_file : ℕ
longest_file = 2 ^ 40

-- Why a file was not read on: it gave too many bytes, of which no more wait than were wanted, and no count changed; or
-- reading failed, while fewer bytes wait than were wanted.
abbrev pub StopsReading : State → State → Reading → ℕ → ReadStop → Type 0
StopsReading old new is least TooLong = (given_of is ≡ longest_file) × (length is.waiting ≤ least) × SameCounts old new
StopsReading old new is least Fault = (given_of is < longest_file) × (length is.waiting < least) × ReadsFail old new

-- how much may still be taken, with the end counted too
abbrev pub spare : Reading → ℕ
spare r = (longest_file - r.taken) + (if r.ended then 0 else 1)
