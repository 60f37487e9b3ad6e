use Rattle.modulator.proofs.StandsLemmas.{no_more}
use Rattle.modulator.proofs.modulating.Modulating.finish.Goals as goal

pub returns-clause-stands : goal.returns-clause-stands
returns-clause-stands c = λ bytes given h.
    c.end.ensures.stands bytes given (no_more c.args.self.now bytes given c.requires.«open» h).stands
