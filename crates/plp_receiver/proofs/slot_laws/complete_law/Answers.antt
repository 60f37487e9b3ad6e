use Rattle.plp_receiver.proofs.LaterLemmas.{complete_by_blocks}
use Rattle.plp_receiver.proofs.slot_laws.complete_law.Goals as goal

pub returns : goal.returns
returns c = complete_by_blocks
