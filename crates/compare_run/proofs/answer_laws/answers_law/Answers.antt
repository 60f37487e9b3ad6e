use Rattle.compare_run.proofs.GrowLemmas.{answers_grow}
use Rattle.compare_run.proofs.answer_laws.answers_law.Goals as goal

pub returns : goal.returns
returns c = answers_grow
