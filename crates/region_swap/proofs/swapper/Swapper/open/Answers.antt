use Rattle.std.proofs.Common.{◌≡◌, true, false, refl, sym}
use Rattle.region_swap.specs.StandsFor.{SwapperStandsFor}
use Rattle.region_swap.specs.Left.{number_of}
use Rattle.region_swap.proofs.swapper.Swapper.open.Goals as goal

pub returns-clause-stands : goal.returns-clause-stands
unfolding SwapperStandsFor
returns-clause-stands c = (
  refl,
  refl,
  record {
    supplied = c.in_ok-region.ensures.stands;
    number_is = refl;
    offered = λ on. absurd (let z : false ≡ true = on in cc);
    flows = λ input more. c.new.ensures.flows c.args.plan.now (number_of c.over.result) (sym c.pid_of.ensures.value);
  },
)
