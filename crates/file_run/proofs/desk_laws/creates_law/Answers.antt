use Rattle.file_run.proofs.WriteLemmas.{creates_empty}
use Rattle.file_run.proofs.desk_laws.creates_law.Goals as goal

pub returns : goal.returns
returns c = creates_empty
