use Rattle.compare_run.proofs.LawLemmas.{run_ends}
use Rattle.compare_run.proofs.laws.run_ends_law.Goals as goal

pub returns : goal.returns
returns c = run_ends
