use Rattle.network_laws.proofs.recover_laws.none_law.Goals as goal

pub returns : goal.returns
returns c = c.recover_law.ensures.none
