use Rattle.config_text.proofs.TextLemmas.{text_spelled_once}
use Rattle.config_text.proofs.laws.spelled_once_law.Goals as goal

pub returns : goal.returns
returns c = text_spelled_once
