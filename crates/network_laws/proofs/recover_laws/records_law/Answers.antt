use Rattle.network_laws.proofs.GivenLemmas.{records_recover}
use Rattle.network_laws.proofs.recover_laws.records_law.Goals as goal

pub returns : goal.returns
returns c = records_recover c.emission_law.ensures.differ c.recover_law.ensures
