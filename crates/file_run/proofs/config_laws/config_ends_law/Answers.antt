use Rattle.file_run.proofs.ConfigEndLemmas.{config_ends, plan_ends}
use Rattle.file_run.proofs.config_laws.config_ends_law.Goals as goal

pub returns-clause-config : goal.returns-clause-config
returns-clause-config c = config_ends c.decided_law.ensures c.refusal_law.ensures.rules_decided

pub returns-clause-plan : goal.returns-clause-plan
returns-clause-plan c = plan_ends c.decided_law.ensures c.refusal_law.ensures.rules_decided
    c.refusal_law.ensures.tests_decided
