use Rattle.region_swap.specs.Left.{number_of}
use Rattle.region_swap.specs.StandsFor.{SwapperStandsFor}
use Rattle.region_swap.proofs.SwapLemmas.{swaps_flow}
use Rattle.region_swap.proofs.swapper.Swapper.finish.Goals as goal

pub returns-clause-stands : goal.returns-clause-stands
unfolding SwapperStandsFor
returns-clause-stands c = λ config plp t left frames given h.
    let s = c.args.self.now in (
      h.0,
      h.1,
      swaps_flow s.plan.now s.list s.region s.flow c.finish.new.self s.place s.place s.number s.begun
          t left left frames given given
          (λ all. c.finish.ensures.flows s.plan.now (number_of s.place) left all given) h.2,
    )
