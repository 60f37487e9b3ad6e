use Rattle.region_swap.specs.StandsFor.{SwapperStandsFor}
use Rattle.region_swap.proofs.SwapLemmas.{swaps_pass}
use Rattle.region_swap.proofs.swapper.Swapper.pass.Goals as goal

pub returns-clause-stands : goal.returns-clause-stands
unfolding SwapperStandsFor
returns-clause-stands c = λ config plp t left frames given h.
    let s = c.args.self.now in (
      h.0,
      h.1,
      swaps_pass s.plan.now s.list s.region c.pass_region.new.region s.flow s.place s.number t left frames given s.begun
          c.pass_region.ensures.stands h.2,
    )
