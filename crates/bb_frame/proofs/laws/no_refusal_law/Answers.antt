use Rattle.bb_frame.proofs.ReadLemmas.{frame_passes}
use Rattle.bb_frame.proofs.laws.no_refusal_law.Goals as goal

pub returns : goal.returns
returns c = frame_passes (λ w. (c.crc8_law.ensures w).0)
