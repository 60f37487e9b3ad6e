use Rattle.site_top.proofs.CompareLemmas.{damage_is_alike}
use Rattle.site_top.proofs.compare.alike_law.Goals as goal

pub returns : goal.returns
returns c = damage_is_alike c.args.plan.now c.rules_law.ensures.plan c.type_law.ensures c.none_differs_law.ensures
