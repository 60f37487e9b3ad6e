use Rattle.plp_receiver.proofs.FrameLemmas.{one_frame}
use Rattle.plp_receiver.proofs.slot_laws.one_frame_law.Goals as goal

pub returns : goal.returns
returns c = one_frame
