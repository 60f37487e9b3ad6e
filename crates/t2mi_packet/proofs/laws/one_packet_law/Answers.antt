use Rattle.t2mi_packet.proofs.LawLemmas.{one_packet}
use Rattle.t2mi_packet.proofs.laws.one_packet_law.Goals as goal

pub returns : goal.returns
returns c = one_packet (λ w. (c.crc32_law.ensures w).0)
