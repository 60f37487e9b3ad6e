use Rattle.modulator.proofs.DueLemmas.{due_fronts, due_follow, due_pass, due_spelled}
use Rattle.modulator.proofs.laws.due_records_law.Goals as goal

pub returns-clause-front : goal.returns-clause-front
returns-clause-front e = due_fronts e.accepted_front_law.ensures e.front_law.ensures

pub returns-clause-follow : goal.returns-clause-follow
returns-clause-follow e = due_follow e.numbers_law.ensures

pub returns-clause-spelled : goal.returns-clause-spelled
returns-clause-spelled e = due_spelled e.record_law.ensures

pub returns-clause-pass : goal.returns-clause-pass
returns-clause-pass e = due_pass
