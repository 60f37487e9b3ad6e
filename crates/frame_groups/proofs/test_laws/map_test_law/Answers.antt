use Rattle.frame_groups.proofs.MapLemmas.{map_is}
use Rattle.frame_groups.proofs.test_laws.map_test_law.Goals as goal

pub returns : goal.returns
returns c = map_is c.map_law.ensures.parts
