use Rattle.std.proofs.Common.{inr}
use Rattle.site_top.proofs.CompareLemmas.{never_differs}
use Rattle.site_top.proofs.compare.compare.Goals as goal

pub returns : goal.returns
returns g c =
    let plan = c.in-Ok.plan in
    let a = c.args.a.now in
    let b = c.args.b.now in
    inr (
      _,
      _,
      c.in-Ok.ensures.ok.0,
      c.in-Ok.ensures.ok.1,
      (
        c.run.result,
        c.run.ensures.ends,
        c.outcome_of-2.ensures,
        never_differs plan _ _ a b c.run.result _ c.alike_law.ensures c.run.ensures.ends c.outcome_of-2.ensures,
      ),
    )
