use Rattle.show_run.proofs.RecordsEndLemmas.{ends_once, each_ends}
use Rattle.show_run.proofs.laws.records_end_law.Goals as goal

pub returns-clause-one : goal.returns-clause-one
returns-clause-one c = ends_once c.reading_law.ensures.one c.refusal_law.ensures.never c.refusal_law.ensures.one

pub returns-clause-each : goal.returns-clause-each
returns-clause-each c = each_ends c.refusal_law.ensures.never c.refusal_law.ensures.either
