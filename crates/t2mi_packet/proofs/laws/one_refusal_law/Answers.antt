use Rattle.t2mi_packet.proofs.LawLemmas.{one_refusal}
use Rattle.t2mi_packet.proofs.laws.one_refusal_law.Goals as goal

pub returns : goal.returns
returns c = one_refusal
