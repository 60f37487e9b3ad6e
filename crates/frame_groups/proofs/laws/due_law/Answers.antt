use Rattle.frame_groups.proofs.DueLemmas.{due_law}
use Rattle.frame_groups.proofs.laws.due_law.Goals as goal

pub returns : goal.returns
returns c = λ r past g p ps given s. due_law r past g p.number p.next p.closing p.fault ps given s
