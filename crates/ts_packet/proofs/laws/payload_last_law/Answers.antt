use Rattle.ts_packet.proofs.ToldLemmas.{payload_last}
use Rattle.ts_packet.proofs.laws.payload_last_law.Goals as goal

pub returns : goal.returns
returns c = payload_last
