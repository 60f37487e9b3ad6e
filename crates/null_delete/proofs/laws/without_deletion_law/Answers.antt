use Rattle.null_delete.proofs.LawLemmas.{without_deletion}
use Rattle.null_delete.proofs.laws.without_deletion_law.Goals as goal

pub returns : goal.returns
returns c = without_deletion
