use Rattle.ts_packet.proofs.WritingLemmas.{canonical_null}
use Rattle.ts_packet.proofs.laws.canonical_null_law.Goals as goal

pub returns : goal.returns
returns c = canonical_null
