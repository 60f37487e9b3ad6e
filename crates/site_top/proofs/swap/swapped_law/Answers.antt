use Rattle.site_top.proofs.SwapLemmas.{are_swapped}
use Rattle.site_top.proofs.swap.swapped_law.Goals as goal

pub returns : goal.returns
returns c =
    are_swapped c.args.plan.now c.rules_law.ensures.plan c.type_law.ensures c.region_law.ensures c.back_law.ensures
    c.whole_region_law.ensures
