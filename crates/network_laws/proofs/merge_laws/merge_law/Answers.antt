use Rattle.network_laws.proofs.MergeLemmas.{merged_comes_back}
use Rattle.network_laws.proofs.merge_laws.merge_law.Goals as goal

pub returns : goal.returns
returns c =
    merged_comes_back c.due_records_law.ensures.follow c.due_records_law.ensures.pass c.named_law.ensures
    c.arrive_law.ensures c.remade_law.ensures
