use Rattle.common_plp.proofs.GroupLemmas.{grouping_told}
use Rattle.common_plp.proofs.StepLemmas.{in_step}
use Rattle.common_plp.proofs.laws.groups_law.Goals as goal

pub returns-clause-told : goal.returns-clause-told
returns-clause-told c = grouping_told

pub returns-clause-step : goal.returns-clause-step
returns-clause-step c = in_step
