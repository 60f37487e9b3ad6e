use Rattle.file_run.proofs.WriteLemmas.{appends_none, appends_then}
use Rattle.file_run.proofs.desk_laws.appends_law.Goals as goal

pub returns-clause-none : goal.returns-clause-none
returns-clause-none c = appends_none

pub returns-clause-then : goal.returns-clause-then
returns-clause-then c = appends_then
