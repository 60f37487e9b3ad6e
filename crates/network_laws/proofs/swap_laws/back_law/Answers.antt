use Rattle.network_laws.proofs.SwapRunLemmas.{region_comes_back}
use Rattle.network_laws.proofs.swap_laws.back_law.Goals as goal

pub returns : goal.returns
returns c =
    region_comes_back c.sent_law.ensures.frames c.tests_law.ensures c.frame_law.ensures c.arrive_law.ensures
    c.remade_law.ensures
