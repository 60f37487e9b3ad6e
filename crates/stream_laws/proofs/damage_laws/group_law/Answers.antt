use Rattle.stream_laws.proofs.GroupLemmas.{groups_are_frames}
use Rattle.stream_laws.proofs.damage_laws.group_law.Goals as goal

pub returns : goal.returns
returns c = groups_are_frames
