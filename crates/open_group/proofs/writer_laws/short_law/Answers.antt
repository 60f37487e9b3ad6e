use Rattle.open_group.proofs.RecordLemmas.{empty_is_short, appended_is_short}
use Rattle.open_group.proofs.writer_laws.short_law.Goals as goal

pub returns-clause-empty : goal.returns-clause-empty
returns-clause-empty c = empty_is_short

pub returns-clause-appended : goal.returns-clause-appended
returns-clause-appended c = appended_is_short
