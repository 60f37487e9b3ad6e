use Rattle.std.proofs.Common.{[], refl}
use Rattle.t2mi_stream.specs.Events.{fed, released}
use Rattle.t2mi_stream.specs.UnpiperStandsFor.{UnpiperStandsFor}
use Rattle.t2mi_stream.proofs.StandsLemmas.{stands_open}
use Rattle.t2mi_stream.proofs.unpiper.Unpiper.begin.Goals as goal

pub returns-clause-stands : goal.returns-clause-stands
unfolding UnpiperStandsFor fed released
returns-clause-stands c = (refl, stands_open c.args.pid c.forget.new.self c.forget.ensures.0 c.forget.ensures.1 [])
