use Rattle.ts_packet.proofs.LawLemmas.{no_refusal}
use Rattle.ts_packet.proofs.laws.no_refusal_law.Goals as goal

pub returns : goal.returns
returns c = no_refusal
