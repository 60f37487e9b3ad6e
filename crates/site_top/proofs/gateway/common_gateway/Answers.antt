use Rattle.std.proofs.Common.{inr, rules}
use Rattle.gateway_run.specs.GatewayRun.{gateway_work}
use Rattle.site_top.specs.GatewayCommand.{Ends, StopsSo, gateway_line}
use Rattle.site_top.specs.Outcomes.{gateway_cause}
use Rattle.common_plp.specs.Sharing.{Joint}
use Rattle.site_top.proofs.GatewayLemmas.{apart}
use Rattle.site_top.proofs.PlanCommandLemmas.{run_told}
use Rattle.site_top.proofs.gateway.common_gateway.Goals as goal

pub run_joined-end-requires-clause-apart : goal.run_joined-end-requires-clause-apart
run_joined-end-requires-clause-apart g c = apart c.args.out.now c.args.ins.now c.requires

pub returns : goal.returns
returns g c =
    let plan = c.in-Ok.plan in
    let ins = c.args.ins.now in
    let out = c.args.out.now in
    inr (
      _,
      _,
      c.in-Ok.ensures.ok.0,
      c.in-Ok.ensures.ok.1,
      inr (
        search rules,
        run_told (gateway_work Joint plan) out ins (Ends Joint out ins plan) (StopsSo Joint out ins plan) gateway_line
            gateway_cause _ _ _ _ _ (λ ran r. r) (λ stop s. s) c.run_joined-end.ensures.ends
            c.tell_run.ensures.ok c.tell_run.ensures.err,
      ),
    )
