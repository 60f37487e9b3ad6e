use Rattle.network_laws.proofs.GatewayLemmas.{interleaving_is_epoch}
use Rattle.network_laws.proofs.recover_laws.plan_epochs_law.Goals as goal

pub returns : goal.returns
returns c = interleaving_is_epoch c.within_law.ensures c.length_law.ensures.times
