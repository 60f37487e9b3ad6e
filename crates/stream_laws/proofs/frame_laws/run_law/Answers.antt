use Rattle.stream_laws.proofs.ArriveLemmas.{whole_arrives, whole_comes}
use Rattle.stream_laws.proofs.frame_laws.run_law.Goals as goal

pub returns-clause-arrives : goal.returns-clause-arrives
returns-clause-arrives c = whole_arrives

pub returns-clause-records : goal.returns-clause-records
returns-clause-records c = whole_comes c.stream_law.ensures c.undamaged_law.ensures c.record_law.ensures.whole
