use Rattle.frame_groups.proofs.RunLemmas.{are_runs}
use Rattle.frame_groups.proofs.laws.groups_law.Goals as goal

pub returns : goal.returns
returns c = are_runs
