use Rattle.t2mi_stream.proofs.StandLemmas.{accepted_stand}
use Rattle.t2mi_stream.proofs.survivor_laws.stand_law.Goals as goal

pub returns : goal.returns
returns c = accepted_stand
