use Rattle.l1_signal.proofs.DynLemmas.{dyn_read_back, dyn_was_spelled, dyn_written, dyn_length}
use Rattle.l1_signal.proofs.laws.dyn_law.Goals as goal

pub returns-clause-back : goal.returns-clause-back
returns-clause-back c = dyn_read_back

pub returns-clause-spelled : goal.returns-clause-spelled
returns-clause-spelled c = dyn_was_spelled

pub returns-clause-written : goal.returns-clause-written
returns-clause-written c = dyn_written

pub returns-clause-len : goal.returns-clause-len
returns-clause-len c = dyn_length
