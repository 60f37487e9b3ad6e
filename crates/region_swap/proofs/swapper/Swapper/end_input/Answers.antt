use Rattle.region_swap.specs.StandsFor.{SwapperStandsFor}
use Rattle.region_swap.proofs.SwapLemmas.{swaps_end}
use Rattle.region_swap.proofs.swapper.Swapper.end_input.Goals as goal

pub returns-clause-stands : goal.returns-clause-stands
unfolding SwapperStandsFor
returns-clause-stands c = λ config plp t left frames given h.
    let s = c.args.self.now in (
      h.0,
      h.1,
      swaps_end s.plan.now s.list s.region c.end.new.self s.flow s.place s.number t left frames given
          s.begun c.end.ensures.stands h.2,
    )
