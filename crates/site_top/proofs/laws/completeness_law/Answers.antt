use Rattle.site_top.proofs.CompleteLemmas.{is_complete}
use Rattle.site_top.proofs.laws.completeness_law.Goals as goal

pub returns : goal.returns
returns c = is_complete c.one_ending_law.ensures c.one_config_law.ensures.plan
