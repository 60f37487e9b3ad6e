use Rattle.site_top.proofs.HaveEndingLemmas.{commands_end}
use Rattle.site_top.proofs.laws.commands_have_ending_law.Goals as goal

pub returns : goal.returns
returns c = commands_end c.packets_end_law.ensures.each c.records_end_law.ensures.each c.config_ends_law.ensures.config
    c.config_ends_law.ensures.plan c.run_ends_law.ensures c.run_ends_law-2.ensures c.run_ends_law-3.ensures.joined
    c.run_ends_law-4.ensures c.run_ends_law-5.ensures c.run_ends_law-6.ensures
