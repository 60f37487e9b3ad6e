use Rattle.site_frame.proofs.LawLemmas.{written_is_read, one_record}
use Rattle.site_frame.proofs.laws.reading_law.Goals as goal

pub returns-clause-read : goal.returns-clause-read
returns-clause-read c = written_is_read

pub returns-clause-one : goal.returns-clause-one
returns-clause-one c = one_record
