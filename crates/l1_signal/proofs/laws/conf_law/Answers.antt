use Rattle.l1_signal.proofs.ConfLemmas.{conf_read_back, conf_was_spelled, conf_written, conf_length}
use Rattle.l1_signal.proofs.laws.conf_law.Goals as goal

pub returns-clause-back : goal.returns-clause-back
returns-clause-back c = conf_read_back

pub returns-clause-spelled : goal.returns-clause-spelled
returns-clause-spelled c = conf_was_spelled

pub returns-clause-written : goal.returns-clause-written
returns-clause-written c = conf_written

pub returns-clause-len : goal.returns-clause-len
returns-clause-len c = conf_length
