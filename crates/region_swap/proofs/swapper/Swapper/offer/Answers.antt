use Rattle.region_swap.specs.StandsFor.{SwapperStandsFor}
use Rattle.gateway_core.specs.IsFed.{wanted}
use Rattle.region_swap.proofs.SwapLemmas.{not_begun, swaps_offer}
use Rattle.region_swap.proofs.swapper.Swapper.offer.Goals as goal

pub returns-clause-stands : goal.returns-clause-stands
unfolding SwapperStandsFor
returns-clause-stands c = λ config plp t left frames given h.
    let s = c.args.self.now in
    let b = not_begun s.begun (wanted s.region.input) c.requires in (
      h.0,
      h.1,
      swaps_offer s.plan.now s.list s.region c.offer.new.self s.flow s.place s.number t left frames given
          s.begun c.args.packet.now
          b.off b.some c.offer.ensures.stands h.2,
    )
