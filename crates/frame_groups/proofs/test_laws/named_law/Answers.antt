use Rattle.frame_groups.proofs.NamedLemmas.{frame_named}
use Rattle.frame_groups.proofs.test_laws.named_law.Goals as goal

pub returns : goal.returns
returns c = frame_named c.emission_law.ensures.found
