use Rattle.frame_groups.proofs.NumberLemmas.{next_law, found}
use Rattle.frame_groups.proofs.laws.next_law.Goals as goal

pub returns-clause-least : goal.returns-clause-least
returns-clause-least c = next_law

pub returns-clause-found : goal.returns-clause-found
returns-clause-found c = found
