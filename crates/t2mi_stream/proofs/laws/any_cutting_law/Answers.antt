use Rattle.t2mi_stream.proofs.TallyLemmas.{any_cutting}
use Rattle.t2mi_stream.proofs.laws.any_cutting_law.Goals as goal

pub returns : goal.returns
returns c = any_cutting
