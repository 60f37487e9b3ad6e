-- How often calls of a desk failed, which kind failed first, and which call may raise which count.
use Rattle.std.specs.Prelude.{◌≡◌, ◌⊎◌, ℕ, ◌+◌, ◌-◌, ◌^◌, ◌<◌, ◌≤◌, min, Result, OnOk, OnErr, Option, None, Some}
use Rattle.std.specs.Option.{option_or}
use Rattle.ports.specs.declared.counts.Counts.{Counts}
use Rattle.ports.specs.declared.fault.FaultKind.{FaultKind}
use Rattle.ports.specs.declared.fault.FaultKind.TheVariants.{Reading, Writing, LastLine}

abbrev pub no_faults : Counts
no_faults = record { reads = 0; writes = 0; lines = 0; first = None }

-- A count rose if it is greater after than before, or stands at its greatest value.
abbrev pub Rose : ℕ → ℕ → Type 0
Rose before now = (before < now) ⊎ (now ≡ 2 ^ 64 - 1)

-- a count one higher, which stays at its greatest value
abbrev pub one_more : ℕ → ℕ
one_more count = min (count + 1) (2 ^ 64 - 1)

-- the kind of the first fault, after one of this kind: what it was if there was one, and else this
abbrev pub first_of : Option FaultKind → FaultKind → Option FaultKind
first_of first kind = option_or first (Some kind)

-- with one more fault of a kind
abbrev pub with_fault : FaultKind → Counts → Counts
with_fault Reading c = record c { reads = one_more c.reads; first = first_of c.first Reading }
with_fault Writing c = record c { writes = one_more c.writes; first = first_of c.first Writing }
with_fault LastLine c = record c { lines = one_more c.lines; first = first_of c.first LastLine }

-- A call that may fail at reading: if it is Ok the counts are as they were; if it failed the count of reading rose, and
-- the first fault is what it was, or this one if there was none. The other counts never change.
pub record MayFailReading {T E : Type 0} (old new : Counts) (result : Result T E) : Type 0 where
  pub ok : OnOk result (new ≡ old)
  pub err : OnErr result (Rose old.reads new.reads)
  pub first : OnErr result (new.first ≡ first_of old.first Reading)
  pub later : old.reads ≤ new.reads
  pub others : new ≡ record old { reads = new.reads; first = new.first }

-- A call that may fail at writing.
pub record MayFailWriting {T E : Type 0} (old new : Counts) (result : Result T E) : Type 0 where
  pub ok : OnOk result (new ≡ old)
  pub err : OnErr result (Rose old.writes new.writes)
  pub first : OnErr result (new.first ≡ first_of old.first Writing)
  pub later : old.writes ≤ new.writes
  pub others : new ≡ record old { writes = new.writes; first = new.first }

-- The last line failed.
abbrev pub FailsAtLast : Counts → Counts → Type 0
FailsAtLast old new = Rose old.lines new.lines × (new.first ≡ first_of old.first LastLine)

-- A call that may fail at the last line, and tells nobody.
pub record MayFailAtLast (old new : Counts) : Type 0 where
  pub either : (new ≡ old) ⊎ FailsAtLast old new
  pub later : old.lines ≤ new.lines
  pub others : new ≡ record old { lines = new.lines; first = new.first }
