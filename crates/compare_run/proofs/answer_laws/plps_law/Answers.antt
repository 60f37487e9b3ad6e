use Rattle.compare_run.proofs.DifferenceLemmas.{others_are_first, same_has_none, block_is_first}
use Rattle.compare_run.proofs.answer_laws.plps_law.Goals as goal

pub returns : goal.returns
returns c = record { others = others_are_first; same = same_has_none; first = block_is_first }
