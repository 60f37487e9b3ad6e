use Rattle.frame_groups.proofs.ConsecutiveLemmas.{follow}
use Rattle.frame_groups.proofs.laws.numbers_law.Goals as goal

pub returns : goal.returns
returns c = follow
