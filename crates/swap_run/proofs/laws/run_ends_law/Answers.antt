use Rattle.swap_run.proofs.LawLemmas.{run_ends}
use Rattle.swap_run.proofs.laws.run_ends_law.Goals as goal

pub returns : goal.returns
returns c = run_ends c.slot_time_law.ensures.none_at_zero c.length_law.ensures.slot
