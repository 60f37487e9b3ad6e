use Rattle.site_top.proofs.MendLemmas.{are_mended}
use Rattle.site_top.proofs.mend.mended_law.Goals as goal

pub returns : goal.returns
returns c =
    are_mended c.args.plan.now c.rules_law.ensures.plan c.type_law.ensures (record {
      pass = c.pass_law.ensures;
      rise = c.rise_law.ensures;
      near = c.near_law.ensures;
      comes = c.mend_law.ensures;
      honest = c.feeds_law.ensures.damaged;
      come = c.feeds_law.ensures.come_damaged;
      survive = c.feeds_law.ensures.survive;
      none_lost = c.feeds_law.ensures.none_lost;
      whole = c.feeds_law.ensures.whole_damaged;
    })
