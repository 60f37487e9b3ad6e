use Rattle.frame_groups.proofs.TallyLemmas.{tests_tallied, tally_grows}
use Rattle.frame_groups.proofs.test_laws.tally_law.Goals as goal

pub returns : goal.returns
returns c = record { tests = tests_tallied; grows = tally_grows }
