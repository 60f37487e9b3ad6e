use Rattle.record_laws.proofs.AloneLemmas.{alone_law}
use Rattle.record_laws.proofs.laws.alone_law.Goals as goal

pub returns : goal.returns
returns c = alone_law c.stand_law.ensures.ordinal c.alone_law.ensures
