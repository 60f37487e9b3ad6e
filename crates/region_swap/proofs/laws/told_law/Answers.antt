use Rattle.region_swap.proofs.TellLemmas.{held_tells}
use Rattle.region_swap.proofs.laws.told_law.Goals as goal

pub returns : goal.returns
returns c = held_tells c.map_test_law.ensures
