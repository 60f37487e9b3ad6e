use Rattle.gateway_core.proofs.LawLemmas.{not_last}
use Rattle.gateway_core.proofs.laws.not_yet_last_law.Goals as goal

pub returns : goal.returns
returns c = not_last c.run_length_law.ensures c.slot_time_law.ensures.ends_after_start
    c.slot_time_law.ensures.not_over_by
    c.length_law.ensures.slot c.length_law.ensures.epoch
