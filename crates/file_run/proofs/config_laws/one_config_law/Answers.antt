use Rattle.file_run.proofs.ConfigLawLemmas.{ConfigLaws, config_once, plan_once}
use Rattle.file_run.proofs.config_laws.one_config_law.Goals as goal

pub returns : goal.returns
returns c =
    let below : ConfigLaws = record {
      spelled = c.spelled_once_law.ensures;
      accepted = c.not_refused_law.ensures;
      refused = c.refused_once_law.ensures;
      one_rule = c.refusal_law.ensures.one_rule;
      rules_fail = c.refusal_law.ensures.rules_fail;
      one_test = c.refusal_law.ensures.one_test;
      tests_fail = c.refusal_law.ensures.tests_fail;
    } in
    record { config = config_once below; plan = plan_once below }
