use Rattle.t2mi_stream.proofs.DisjointLemmas.{disjoint}
use Rattle.t2mi_stream.proofs.laws.disjoint_law.Goals as goal

pub returns : goal.returns
returns c = disjoint c.grammar.ensures
