-- Which kind of calls failed.
use Rattle.std.specs.Prelude.{◌≡◌, ◌≤◌}
use Rattle.ports.specs.Counts.{Rose, first_of}
use Rattle.ports.specs.Desk.{State}
use Rattle.ports.specs.declared.fault.FaultKind.TheVariants.{Reading, Writing}

-- The count of opening and reading rose, and no other changed. The first fault is what it was, or of reading if there
-- was none.
pub record ReadsFail (old new : State) : Type 0 where
  pub rose : Rose old.counts.reads new.counts.reads
  pub first : new.counts.first ≡ first_of old.counts.first Reading
  pub later : old.counts.reads ≤ new.counts.reads
  pub others : new.counts ≡ record old.counts { reads = new.counts.reads; first = new.counts.first }

-- The count of creating, writing and saying rose, and no other changed. The first fault is what it was, or of writing
-- if there was none.
pub record WritesFail (old new : State) : Type 0 where
  pub rose : Rose old.counts.writes new.counts.writes
  pub first : new.counts.first ≡ first_of old.counts.first Writing
  pub later : old.counts.writes ≤ new.counts.writes
  pub others : new.counts ≡ record old.counts { writes = new.counts.writes; first = new.counts.first }
