use Rattle.gateway_core.proofs.LawLemmas.{units_first}
use Rattle.gateway_core.proofs.laws.units_law.Goals as goal

pub returns : goal.returns
returns c = units_first c.complete_law.ensures.stays
