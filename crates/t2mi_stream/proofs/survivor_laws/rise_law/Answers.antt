use Rattle.t2mi_stream.proofs.RiseLemmas.{places_rise}
use Rattle.t2mi_stream.proofs.survivor_laws.rise_law.Goals as goal

pub returns : goal.returns
returns c = places_rise c.grammar.ensures
