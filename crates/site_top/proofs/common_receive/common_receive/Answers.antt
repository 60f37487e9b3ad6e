use Rattle.std.proofs.Common.{inr, [], ◌∷◌}
use Rattle.common_plp.specs.Groups.{common_of}
use Rattle.common_plp.specs.Sharing.{Joint}
use Rattle.site_top.specs.Outcomes.{receive_cause}
use Rattle.receive_run.specs.JoinedRun.{receive_work}
use Rattle.site_top.specs.ReceiveCommand.{receive_line}
use Rattle.site_top.specs.Reception.{Ends, StopsSo}
use Rattle.site_top.proofs.GatewayLemmas.{other_name}
use Rattle.site_top.proofs.JoinedLemmas.{holds_joined}
use Rattle.site_top.proofs.PlanCommandLemmas.{run_told}
use Rattle.site_top.proofs.common_receive.common_receive.Goals as goal

pub run_joined-end-requires : goal.run_joined-end-requires
run_joined-end-requires g c =
    record { plp = c.in-Some.ensures.some.place.inside; apart = other_name c.args.input.now c.args.out.now c.requires }

pub returns : goal.returns
returns g c =
    let plan = c.in-Ok.plan in
    let file = c.args.input.now in
    let out = c.args.out.now in
    let at = c.in-Some.ensures.some in
    inr (
      _,
      _,
      c.in-Ok.ensures.ok.0,
      c.in-Ok.ensures.ok.1,
      inr (
        _,
        at,
        run_told (receive_work (common_of plan _) plan _) out (file ∷ []) (Ends Joint file out plan _)
            (StopsSo Joint file out plan _) receive_line receive_cause _ _ _ _ _
            (λ ran r. (r, holds_joined plan _ _ _ file out ran c.joined_law.ensures at.place.inside r)) (λ stop s. s)
            c.run_joined-end.ensures.ends c.tell_run.ensures.ok c.tell_run.ensures.err,
      ),
    )
