use Rattle.gateway_run.proofs.EndLemmas.{run_ends}
use Rattle.gateway_run.proofs.laws.run_ends_law.Goals as goal

pub returns : goal.returns
returns c = run_ends c.not_yet_last_law.ensures c.split_law.ensures.length
