use Rattle.config_text.proofs.TextLemmas.{text_refused_once}
use Rattle.config_text.proofs.laws.refused_once_law.Goals as goal

pub returns : goal.returns
returns c = text_refused_once
