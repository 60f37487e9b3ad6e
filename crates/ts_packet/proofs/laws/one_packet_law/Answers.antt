use Rattle.ts_packet.proofs.LawLemmas.{one_packet}
use Rattle.ts_packet.proofs.laws.one_packet_law.Goals as goal

pub returns : goal.returns
returns c = one_packet
