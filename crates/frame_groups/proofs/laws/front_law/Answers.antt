use Rattle.frame_groups.proofs.FrontLemmas.{front_law}
use Rattle.frame_groups.proofs.laws.front_law.Goals as goal

pub returns : goal.returns
returns c = front_law
