use Rattle.null_delete.proofs.RunLemmas.{run_none, length-run_more}
use Rattle.null_delete.proofs.laws.run_law.Goals as goal

pub returns : goal.returns
returns c = λ passes. record { none = run_none passes; next = length-run_more passes }
