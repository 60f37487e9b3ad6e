use Rattle.t2mi_stream.proofs.StartsLemmas.{starts_law}
use Rattle.t2mi_stream.proofs.laws.starts_found_law.Goals as goal

pub returns : goal.returns
returns c = λ run. starts_law c.grammar.ensures run
