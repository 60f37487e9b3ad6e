use Rattle.network_laws.proofs.BackLemmas.{comes_all}
use Rattle.network_laws.proofs.common_laws.common_law.Goals as goal

pub returns : goal.returns
returns c = comes_all c.groups_law.ensures.step c.split_law.ensures.slot c.join_law.ensures.slots c.recover_law.ensures
