use Rattle.plp_config.proofs.TimeLemmas.{spans_epoch, one_slot_per_iscr, iscr_finds_slot}
use Rattle.plp_config.proofs.laws.iscr_law.Goals as goal

pub returns-clause-spans : goal.returns-clause-spans
returns-clause-spans c = spans_epoch

pub returns-clause-unique : goal.returns-clause-unique
returns-clause-unique c = one_slot_per_iscr

pub returns-clause-found : goal.returns-clause-found
returns-clause-found c = iscr_finds_slot
