use Rattle.bb_frame.proofs.ReadLemmas.{frame_or_refused}
use Rattle.bb_frame.proofs.laws.spelled_or_refused_law.Goals as goal

pub returns : goal.returns
returns c = frame_or_refused
