use Rattle.stream_laws.proofs.StreamLemmas.{kept_honest, kept_whole}
use Rattle.stream_laws.proofs.unit_laws.kept_law.Goals as goal

pub returns-clause-honest : goal.returns-clause-honest
returns-clause-honest c = kept_honest c.undamaged_law.ensures c.near_law.ensures.later

pub returns-clause-whole : goal.returns-clause-whole
returns-clause-whole c = kept_whole c.survives_law.ensures c.survivor_law.ensures.told c.whole_law.ensures.told
