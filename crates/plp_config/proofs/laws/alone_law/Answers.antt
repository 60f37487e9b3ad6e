use Rattle.plp_config.proofs.AloneLemmas.{fits_alone}
use Rattle.plp_config.proofs.laws.alone_law.Goals as goal

pub returns : goal.returns
returns c = fits_alone
