use Rattle.gateway_core.proofs.LawLemmas.{last_all}
use Rattle.gateway_core.proofs.laws.last_law.Goals as goal

pub returns : goal.returns
returns c = last_all
