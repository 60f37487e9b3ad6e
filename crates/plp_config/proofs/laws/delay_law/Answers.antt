use Rattle.plp_config.proofs.TimeLemmas.{delay_outlasts}
use Rattle.plp_config.proofs.laws.delay_law.Goals as goal

pub returns : goal.returns
returns c = delay_outlasts
