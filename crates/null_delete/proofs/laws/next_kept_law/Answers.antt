use Rattle.null_delete.proofs.LawLemmas.{next_kept}
use Rattle.null_delete.proofs.laws.next_kept_law.Goals as goal

pub returns : goal.returns
returns c = next_kept
