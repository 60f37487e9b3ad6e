use Rattle.std.proofs.Common.{inr, [], ◌∷◌, None}
use Rattle.site_top.specs.Outcomes.{receive_cause}
use Rattle.common_plp.specs.Sharing.{Apart}
use Rattle.receive_run.specs.JoinedRun.{receive_work}
use Rattle.site_top.specs.ReceiveCommand.{receive_line}
use Rattle.site_top.specs.Reception.{Ends, StopsSo}
use Rattle.site_top.proofs.GatewayLemmas.{other_name}
use Rattle.site_top.proofs.PlanCommandLemmas.{run_told}
use Rattle.site_top.proofs.RecoverLemmas.{holds_back}
use Rattle.site_top.proofs.receive.receive.Goals as goal

pub run-end-requires : goal.run-end-requires
run-end-requires g c = record {
  plp = c.in-Some.ensures.some.inside;
  apart = other_name c.args.input.now
      c.args.out.now c.requires;
}

pub returns : goal.returns
returns g c =
    let plan = c.in-Ok.plan in
    let file = c.args.input.now in
    let out = c.args.out.now in
    let at = c.in-Some.ensures.some in
    inr (
      _,
      _,
      c.in-Ok.ensures.ok.0,
      c.in-Ok.ensures.ok.1,
      inr (
        _,
        at,
        run_told (receive_work None plan _) out (file ∷ []) (Ends Apart file out plan _) (StopsSo Apart file out plan _)
            receive_line receive_cause _ _ _ _ _
            (λ ran r. (r, holds_back plan _ _ _ file out ran c.back_law.ensures at.inside r)) (λ stop s. s)
            c.run-end.ensures.ends c.tell_run.ensures.ok c.tell_run.ensures.err,
      ),
    )
