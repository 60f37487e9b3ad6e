use Rattle.common_plp.proofs.LawLemmas.{split_front, split_slot, split_length}
use Rattle.common_plp.proofs.laws.split_law.Goals as goal

pub returns-clause-front : goal.returns-clause-front
returns-clause-front c = split_front

pub returns-clause-slot : goal.returns-clause-slot
returns-clause-slot c = split_slot

pub returns-clause-length : goal.returns-clause-length
returns-clause-length c = split_length
