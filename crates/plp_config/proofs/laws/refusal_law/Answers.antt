use Rattle.plp_config.proofs.RefusalLemmas.{one_rule, refusal_fails, one_test, lack_fails}
use Rattle.plp_config.proofs.RuleDecideLemmas.{rules_decided}
use Rattle.plp_config.proofs.TestDecideLemmas.{tests_decided}
use Rattle.plp_config.proofs.laws.refusal_law.Goals as goal

pub returns-clause-one_rule : goal.returns-clause-one_rule
returns-clause-one_rule c = one_rule

pub returns-clause-rules_fail : goal.returns-clause-rules_fail
returns-clause-rules_fail c = refusal_fails

pub returns-clause-one_test : goal.returns-clause-one_test
returns-clause-one_test c = one_test

pub returns-clause-tests_fail : goal.returns-clause-tests_fail
returns-clause-tests_fail c = lack_fails

pub returns-clause-rules_decided : goal.returns-clause-rules_decided
returns-clause-rules_decided c = rules_decided

pub returns-clause-tests_decided : goal.returns-clause-tests_decided
returns-clause-tests_decided c = tests_decided
