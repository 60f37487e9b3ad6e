use Rattle.gateway_run.proofs.LawLemmas.{runs_once}
use Rattle.gateway_run.proofs.laws.one_run_law.Goals as goal

pub returns : goal.returns
returns c = runs_once
