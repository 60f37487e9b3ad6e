use Rattle.ports.proofs.WriteLemmas.{writes_join}
use Rattle.ports.proofs.laws.writes_law.Goals as goal

pub returns : goal.returns
returns c = writes_join
