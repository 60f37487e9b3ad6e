use Rattle.stream_laws.proofs.DamageRecordLemmas.{modulated_is_records}
use Rattle.stream_laws.proofs.damage_laws.record_law.Goals as goal

pub returns : goal.returns
returns c = modulated_is_records c.next_law.ensures.found
