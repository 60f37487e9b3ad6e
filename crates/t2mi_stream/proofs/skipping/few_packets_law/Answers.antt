use Rattle.t2mi_stream.proofs.SkippingLemmas.{few}
use Rattle.t2mi_stream.proofs.skipping.few_packets_law.Goals as goal

pub returns : goal.returns
returns c = few
