use Rattle.stream_laws.proofs.NumberLemmas.{groups_numbered}
use Rattle.stream_laws.proofs.damage_laws.number_law.Goals as goal

pub returns : goal.returns
returns c = groups_numbered c.next_law.ensures.found
