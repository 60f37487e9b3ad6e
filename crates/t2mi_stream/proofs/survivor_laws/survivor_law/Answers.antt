use Rattle.t2mi_stream.proofs.SurvivorLemmas.{accepted_survive, survival_told}
use Rattle.t2mi_stream.proofs.survivor_laws.survivor_law.Goals as goal

pub returns-clause-survive : goal.returns-clause-survive
returns-clause-survive c = accepted_survive c.grammar.ensures c.rise_law.ensures

pub returns-clause-told : goal.returns-clause-told
returns-clause-told c = survival_told c.grammar.ensures
