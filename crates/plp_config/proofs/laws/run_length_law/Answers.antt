use Rattle.plp_config.proofs.RunLemmas.{frame_count_least}
use Rattle.plp_config.proofs.laws.run_length_law.Goals as goal

pub returns : goal.returns
returns c = frame_count_least
