use Rattle.config_text.proofs.TextLemmas.{text_not_refused}
use Rattle.config_text.proofs.laws.not_refused_law.Goals as goal

pub returns : goal.returns
returns c = text_not_refused
