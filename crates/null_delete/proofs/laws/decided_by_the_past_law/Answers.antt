use Rattle.null_delete.proofs.LawLemmas.{decided_by_the_past}
use Rattle.null_delete.proofs.laws.decided_by_the_past_law.Goals as goal

pub returns : goal.returns
returns c = decided_by_the_past
