use Rattle.bit_slice.proofs.PrbsLemmas.{prbs_recurs}
use Rattle.bit_slice.proofs.laws.prbs_law.Goals as goal

pub returns : goal.returns
returns c = prbs_recurs
