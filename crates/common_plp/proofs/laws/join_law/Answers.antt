use Rattle.common_plp.proofs.JoinLemmas.{joined_slots}
use Rattle.common_plp.proofs.LawLemmas.{joined_again}
use Rattle.common_plp.proofs.laws.join_law.Goals as goal

pub returns-clause-again : goal.returns-clause-again
returns-clause-again c = joined_again

pub returns-clause-slots : goal.returns-clause-slots
returns-clause-slots c = joined_slots
