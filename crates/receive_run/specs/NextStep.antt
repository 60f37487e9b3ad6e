-- What comes next. No public clause cites this module.
use Rattle.std.specs.Prelude.{ℕ, zero, suc, Option, Some, None}
use Rattle.file_run.specs.declared.machine.Step.{Step}
use Rattle.file_run.specs.declared.machine.Step.TheVariants.{Read, Give, End}
use Rattle.site_frame.specs.declared.fault.RecordWhy.{RecordWhy}
use Rattle.site_frame.specs.declared.coming.Coming.{Coming}
use Rattle.site_frame.specs.declared.coming.Coming.TheVariants.{Refused}

-- what is done next, by how many slots are due, why a record is misplaced, and how many bytes of the next one are
-- lacking
abbrev pub next_from : ℕ → Option RecordWhy → ℕ → Step
next_from (suc due) misplaced lacks = Give
next_from zero (Some why) lacks = End
next_from zero None zero = End
next_from zero None (suc lacks) = Read 0 1 (suc lacks)

-- so many bytes may be read: none before all that is due was given
abbrev pub left_by : ℕ → ℕ → ℕ
left_by zero left = left
left_by (suc due) left = 0

-- why the record of the next frame does not come
abbrev pub refusal_of : Coming → Option RecordWhy → Option RecordWhy
refusal_of (Refused why) misplaced = Some why
refusal_of coming misplaced = misplaced
