use Rattle.t2mi_stream.proofs.FrontLemmas.{accepted_front}
use Rattle.t2mi_stream.proofs.laws.accepted_front_law.Goals as goal

pub returns : goal.returns
returns c = λ pid bytes more. accepted_front c.grammar.ensures pid more bytes
