use Rattle.site_top.proofs.EndingLemmas.{one_ending}
use Rattle.site_top.proofs.laws.one_ending_law.Goals as goal

pub returns : goal.returns
returns c =
    one_ending c.packets_end_law.ensures.one c.records_end_law.ensures.one c.one_config_law.ensures.config
    c.one_config_law.ensures.plan
    c.one_run_law.ensures c.one_run_law-2.ensures c.one_run_law-3.ensures.joined c.one_run_law-4.ensures
    c.one_run_law-5.ensures c.one_run_law-6.ensures
