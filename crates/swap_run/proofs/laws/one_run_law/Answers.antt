use Rattle.swap_run.proofs.LawLemmas.{one_run}
use Rattle.swap_run.proofs.laws.one_run_law.Goals as goal

pub returns : goal.returns
returns c = one_run c.slot_time_law.ensures.count_rises c.length_law.ensures.slot
