use Rattle.plp_receiver.proofs.AloneLemmas.{one_frame, all_come}
use Rattle.plp_receiver.proofs.laws.alone_law.Goals as goal

pub returns-clause-records : goal.returns-clause-records
returns-clause-records c = one_frame

pub returns-clause-blocks : goal.returns-clause-blocks
returns-clause-blocks c = all_come
