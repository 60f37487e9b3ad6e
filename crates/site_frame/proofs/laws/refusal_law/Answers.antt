use Rattle.site_frame.proofs.LawLemmas.{no_refusal, spelled_or_refused, one_refusal}
use Rattle.site_frame.proofs.laws.refusal_law.Goals as goal

pub returns-clause-never : goal.returns-clause-never
returns-clause-never c = no_refusal

pub returns-clause-either : goal.returns-clause-either
returns-clause-either c = spelled_or_refused

pub returns-clause-one : goal.returns-clause-one
returns-clause-one c = one_refusal
