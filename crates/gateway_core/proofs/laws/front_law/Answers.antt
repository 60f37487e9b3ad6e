use Rattle.gateway_core.proofs.LawLemmas.{fronts_grow, fronts_decided}
use Rattle.gateway_core.proofs.laws.front_law.Goals as goal

pub returns-clause-grow : goal.returns-clause-grow
returns-clause-grow c = fronts_grow

pub returns-clause-decided : goal.returns-clause-decided
returns-clause-decided c = fronts_decided c.blocks_law.ensures c.length_law.ensures.slot
    c.slot_time_law.ensures.count_rises
