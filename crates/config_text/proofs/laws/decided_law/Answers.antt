use Rattle.config_text.proofs.DecideLemmas.{text_decided}
use Rattle.config_text.proofs.laws.decided_law.Goals as goal

pub returns : goal.returns
returns c = text_decided
