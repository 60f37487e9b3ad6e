use Rattle.std.proofs.Common.{inr, length}
use Rattle.mend_run.specs.MendRun.{mend_work}
use Rattle.site_top.specs.MendCommand.{Ends, StopsSo, mend_line}
use Rattle.site_top.specs.Outcomes.{mend_cause}
use Rattle.site_top.proofs.GatewayLemmas.{apart}
use Rattle.site_top.proofs.MendLemmas.{holds_mended}
use Rattle.site_top.proofs.PlanCommandLemmas.{run_told}
use Rattle.site_top.proofs.mend.mend.Goals as goal

pub run-end-requires : goal.run-end-requires
run-end-requires g c = record { apart = apart c.args.out.now c.args.ins.now c.requires }

pub returns : goal.returns
returns g c =
    let plan = c.in-Ok.plan in
    let ins = c.args.ins.now in
    let out = c.args.out.now in
    inr (
      _,
      _,
      c.in-Ok.ensures.ok.0,
      c.in-Ok.ensures.ok.1,
      run_told (mend_work plan (length ins)) out ins (Ends out ins plan) (StopsSo out ins plan) mend_line mend_cause
          _ _ _ _ _ (λ ran r. (r, holds_mended plan _ _ ins out ran c.mended_law.ensures r)) (λ stop s. s)
          c.run-end.ensures.ends c.tell_run.ensures.ok c.tell_run.ensures.err,
    )
