use Rattle.site_top.proofs.MergeLemmas.{are_merged}
use Rattle.site_top.proofs.merge.merged_law.Goals as goal

pub returns : goal.returns
returns c =
    are_merged c.args.plan.now c.rules_law.ensures.plan c.type_law.ensures c.merge_law.ensures c.picks_law.ensures
    c.again_law.ensures
