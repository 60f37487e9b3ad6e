use Rattle.plp_config.proofs.BeginLemmas.{superframe_begins, begins_inside, begin_first, begin_last, begin_by_number}
use Rattle.plp_config.proofs.BeginLemmas.{begin_alone}
use Rattle.plp_config.proofs.laws.interleaving_law.Goals as goal

pub returns-clause-superframe : goal.returns-clause-superframe
returns-clause-superframe c = superframe_begins

pub returns-clause-inside : goal.returns-clause-inside
returns-clause-inside c = begins_inside

pub returns-clause-first : goal.returns-clause-first
returns-clause-first c = begin_first

pub returns-clause-last : goal.returns-clause-last
returns-clause-last c = begin_last

pub returns-clause-number : goal.returns-clause-number
returns-clause-number c = begin_by_number

pub returns-clause-alone : goal.returns-clause-alone
returns-clause-alone c = begin_alone
