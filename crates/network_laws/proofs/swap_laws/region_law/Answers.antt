use Rattle.network_laws.proofs.SwapRunLemmas.{region_is_of_run}
use Rattle.network_laws.proofs.swap_laws.region_law.Goals as goal

pub returns : goal.returns
returns c =
    region_is_of_run c.replaced_law.ensures c.sent_law.ensures.frames c.stream_law.ensures c.tests_law.ensures
    c.frame_law.ensures c.honest_law.ensures.length c.honest_law.ensures.records
