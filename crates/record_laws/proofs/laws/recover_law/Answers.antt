use Rattle.record_laws.proofs.CountedLemmas.{counted_slots}
use Rattle.record_laws.proofs.LossLemmas.{counted_loss}
use Rattle.record_laws.proofs.RecoverLemmas.{none_lost, due_released, recover_alone}
use Rattle.record_laws.proofs.laws.recover_law.Goals as goal

pub returns-clause-none : goal.returns-clause-none
returns-clause-none c = none_lost

pub returns-clause-due : goal.returns-clause-due
returns-clause-due c = due_released c.release_law.ensures.frame

pub returns-clause-alone : goal.returns-clause-alone
returns-clause-alone c = recover_alone c.spread_law.ensures.alone

pub returns-clause-slots : goal.returns-clause-slots
returns-clause-slots c = counted_slots

pub returns-clause-loss : goal.returns-clause-loss
returns-clause-loss c = counted_loss
