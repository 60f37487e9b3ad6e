use Rattle.compare_run.proofs.LineLemmas.{known_begins}
use Rattle.compare_run.proofs.answer_laws.known_law.Goals as goal

pub returns : goal.returns
returns c = known_begins
