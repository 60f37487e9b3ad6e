use Rattle.mode_adapt.proofs.SentLemmas.{sent_within}
use Rattle.mode_adapt.proofs.laws.sent_within_law.Goals as goal

pub returns : goal.returns
returns c = sent_within
