use Rattle.std.proofs.Common.{rules}
use Rattle.stream_laws.proofs.LossLemmas.{tests_meet}
use Rattle.stream_laws.proofs.frame_laws.tests_law.Goals as goal

pub returns : goal.returns
returns c = search (rules, tests_meet)
