use Rattle.network_laws.proofs.SwapRunLemmas.{whole_is_replaced}
use Rattle.network_laws.proofs.swap_laws.whole_region_law.Goals as goal

pub returns : goal.returns
returns c =
    whole_is_replaced c.region_law.ensures c.sent_law.ensures.frames c.undamaged_law.ensures c.run_law.ensures.arrives
    c.run_law.ensures.records c.again_law.ensures
