use Rattle.ts_packet.proofs.LawLemmas.{spelled_or_refused}
use Rattle.ts_packet.proofs.laws.spelled_or_refused_law.Goals as goal

pub returns : goal.returns
returns c = spelled_or_refused
