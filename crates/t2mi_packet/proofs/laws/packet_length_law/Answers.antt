use Rattle.t2mi_packet.proofs.LawLemmas.{packet_length}
use Rattle.t2mi_packet.proofs.laws.packet_length_law.Goals as goal

pub returns : goal.returns
returns c = packet_length (λ w. (c.crc32_law.ensures w).0)
