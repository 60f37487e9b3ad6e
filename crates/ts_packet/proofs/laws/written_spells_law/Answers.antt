use Rattle.ts_packet.proofs.WritingLemmas.{written_spells}
use Rattle.ts_packet.proofs.laws.written_spells_law.Goals as goal

pub returns : goal.returns
returns c = written_spells
