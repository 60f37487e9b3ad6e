use Rattle.std.proofs.Common.{◌∙◌, [], List, ℕ, refl, ap, sym, append-nil}
use Rattle.std.specs.Prelude.{slice_get}
use Rattle.t2mi_stream.specs.Pipe.{pipe}
use Rattle.stream_laws.specs.Remade.{remade_bodies, remade_packets}
use Rattle.region_swap.specs.Left.{number_of}
use Rattle.region_swap.specs.StandsFor.{SwapperStandsFor}
use Rattle.region_swap.specs.Swapped.{swapped}
use Rattle.region_swap.proofs.SwapLemmas.{swaps_flow}
use Rattle.region_swap.proofs.swapper.Swapper.rest.Goals as goal

pub returns-clause-unit : goal.returns-clause-unit
unfolding SwapperStandsFor remade_packets
returns-clause-unit c = λ on config plp t frames given h input more.
    let s = c.args.self.now in
    let p = s.plan.now in
    rw (sym h.0, sym h.1)
    (ap (λ (l : List (List ℕ)). slice_get (pipe p.pid l) given)
    (sym (append-nil (remade_packets p (swapped p s.list input frames))))
    ∙ c.rest.ensures.unit on p (number_of s.place) (remade_bodies p (swapped p s.list input frames))
    given (h.2.flows input more)
    [] (λ _. refl))

pub returns-clause-stands : goal.returns-clause-stands
unfolding SwapperStandsFor
returns-clause-stands c = λ on config plp t frames given h.
    let s = c.args.self.now in (
      h.0,
      h.1,
      swaps_flow s.plan.now s.list s.region s.flow c.rest.new.self s.place s.place s.number s.begun t
          [] [] frames given _
          (λ all. c.rest.ensures.flows on s.plan.now (number_of s.place) all given) h.2,
    )

pub returns-clause-none : goal.returns-clause-none
unfolding SwapperStandsFor remade_packets
returns-clause-none c = λ off config plp t frames given h input more.
    let s = c.args.self.now in
    let p = s.plan.now in
    rw (sym h.0, sym h.1)
    (c.rest.ensures.none off c.requires.finished p (number_of s.place) (remade_bodies p (swapped p s.list input frames))
    given
    (h.2.flows input more))

pub returns-clause-kept : goal.returns-clause-kept
unfolding SwapperStandsFor
returns-clause-kept c = λ none config plp t frames given h. rw (c.rest.ensures.stays none).0 h
