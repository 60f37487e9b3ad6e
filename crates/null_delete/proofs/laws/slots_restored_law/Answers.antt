use Rattle.null_delete.proofs.LawLemmas.{slots_restored}
use Rattle.null_delete.proofs.laws.slots_restored_law.Goals as goal

pub returns : goal.returns
returns c = slots_restored
