use Rattle.modulator.specs.StandsFor.{ModulatorStandsFor}
use Rattle.modulator.proofs.modulator.Modulator.joined.Goals as goal

pub returns-clause-yes : goal.returns-clause-yes
unfolding ModulatorStandsFor
returns-clause-yes c = λ yes bytes taken h. c.joined.ensures.yes yes bytes h.given h.stands

pub returns-clause-no : goal.returns-clause-no
unfolding ModulatorStandsFor
returns-clause-no c = λ no bytes taken h. c.joined.ensures.no no bytes h.given h.stands
