use Rattle.bb_frame.proofs.ReadLemmas.{written}
use Rattle.bb_frame.proofs.laws.written_is_spelled_law.Goals as goal

pub returns : goal.returns
returns c = written
