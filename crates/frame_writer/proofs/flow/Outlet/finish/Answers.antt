use Rattle.t2mi_stream.specs.PiperStandsFor.{PiperStandsFor}
use Rattle.frame_writer.proofs.CarriedLemmas.{carries_finish}
use Rattle.frame_writer.proofs.flow.Outlet.finish.Goals as goal

pub returns-clause-flows : goal.returns-clause-flows
returns-clause-flows c = λ config n left all given h. carries_finish (PiperStandsFor c.args.self.now.piper)
    (PiperStandsFor c.finish.new.self) _ _ _ _ config n left all given c.finish.ensures.finished c.finish.ensures.stands
    h
