use Rattle.t2mi_stream.proofs.TallyLemmas.{whole_packets}
use Rattle.t2mi_stream.proofs.laws.whole_packets_law.Goals as goal

pub returns : goal.returns
returns c = whole_packets
