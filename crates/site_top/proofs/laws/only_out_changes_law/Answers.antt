use Rattle.site_top.proofs.TouchLemmas as lemmas
use Rattle.site_top.proofs.laws.only_out_changes_law.Goals as goal

pub returns : goal.returns
returns c = lemmas.only_out_changes
