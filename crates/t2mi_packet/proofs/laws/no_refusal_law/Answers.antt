use Rattle.t2mi_packet.proofs.LawLemmas.{no_refusal}
use Rattle.t2mi_packet.proofs.laws.no_refusal_law.Goals as goal

pub returns : goal.returns
returns c = no_refusal (λ w. (c.crc32_law.ensures w).0)
