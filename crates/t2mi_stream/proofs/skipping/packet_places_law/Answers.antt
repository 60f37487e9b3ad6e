use Rattle.t2mi_stream.proofs.SkippingLemmas.{places}
use Rattle.t2mi_stream.proofs.skipping.packet_places_law.Goals as goal

pub returns : goal.returns
returns c = places c.grammar.ensures
