use Rattle.ts_packet.proofs.ToldLemmas.{fields_told}
use Rattle.ts_packet.proofs.laws.fields_told_law.Goals as goal

pub returns : goal.returns
returns c = fields_told
