use Rattle.std.proofs.Common.{List, ℕ, [], ap, sym, subst}
use Rattle.terms.specs.Bits.{bytes_of}
use Rattle.t2mi_stream.specs.PiperStandsFor.{PiperStandsFor, is_finished}
use Rattle.frame_writer.specs.Carried.{Carries}
use Rattle.frame_writer.proofs.CarriedLemmas.{carries_new}
use Rattle.frame_writer.proofs.flow.Outlet.new.Goals as goal

pub returns-clause-flows : goal.returns-clause-flows
returns-clause-flows c = λ config n e.
    subst (λ (l : List ℕ). Carries (PiperStandsFor c.new.result) (is_finished c.new.result) l 0 config n [] [] 0)
    (sym (ap bytes_of c.new-2.ensures))
    (carries_new (PiperStandsFor c.new.result) _ config n c.args.pid e c.new.ensures.stands)
