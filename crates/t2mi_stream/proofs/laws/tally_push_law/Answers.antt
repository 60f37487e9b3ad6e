use Rattle.t2mi_stream.proofs.TallyLemmas.{tally_push}
use Rattle.t2mi_stream.proofs.laws.tally_push_law.Goals as goal

pub returns : goal.returns
returns c = tally_push
