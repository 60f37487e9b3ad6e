use Rattle.file_run.proofs.EventLemmas.{events_tell}
use Rattle.file_run.proofs.laws.events_law.Goals as goal

pub returns : goal.returns
returns c = events_tell
