use Rattle.null_delete.proofs.LawLemmas.{first_kept}
use Rattle.null_delete.proofs.laws.first_kept_law.Goals as goal

pub returns : goal.returns
returns c = first_kept
