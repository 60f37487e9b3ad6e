use Rattle.std.proofs.Common.{arith, ap, sym}
use Rattle.common_plp.specs.Inputs.{input_count}
use Rattle.plp_config.specs.declared.config.Config.{Config}
use Rattle.gateway_run.proofs.MachineLemmas.{wanted_by}
use Rattle.gateway_run.proofs.WaitingLemmas.{waits}
use Rattle.gateway_run.proofs.machine.GatewayMachineMachine.step.Goals as goal

pub returns-in-Wants-clause-wanted : goal.returns-in-Wants-clause-wanted
returns-in-Wants-clause-wanted g c = λ start events h.
    let m = c.args.self.now in
    let way = g.G.FrameGateway.sharing in
    let s = g.G.FrameGateway.seen m.gateway m.plan.now in
    let few = c.min.ensures in
    let value = c.wants.ensures in
    wanted_by way m.plan.now events s.stands m.place m.ran (s.wants m.place.input) c.min.result _ c.in-Wants.is
    (ap (λ (k : Config). input_count way k) (sym h.0))
    (waits way m.plan.now s _ m.place m.ran m.ready events c.in-Wants.is)
    (omega (arith, few, value)) (λ some. omega (arith, few, value, some)) h.1
