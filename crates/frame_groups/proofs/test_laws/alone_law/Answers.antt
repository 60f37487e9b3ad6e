use Rattle.frame_groups.proofs.AloneLemmas.{tests_alone}
use Rattle.frame_groups.proofs.test_laws.alone_law.Goals as goal

pub returns : goal.returns
returns c = tests_alone c.interleaving_law.ensures.alone
