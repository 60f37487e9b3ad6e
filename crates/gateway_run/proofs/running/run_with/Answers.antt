use Rattle.std.proofs.Common.{ap, subst, sym, ◌∙◌}
use Rattle.plp_config.specs.declared.config.Config.{Config}
use Rattle.common_plp.specs.Inputs.{input_count}
use Rattle.file_run.specs.Work.{Ends, Into}
use Rattle.file_run.proofs.WorkLemmas.{ends_so}
use Rattle.gateway_run.specs.GatewayRun.{gateway_work}
use Rattle.gateway_run.specs.declared.machine.GatewayMachine.{GatewayMachine}
use Rattle.gateway_run.proofs.WorkLemmas.{gateway_does}
use Rattle.gateway_run.proofs.running.run_with.Goals as goal

pub returns : goal.returns
returns g c = record {
  ends =
      let way = g.G.FrameGateway.sharing in
      let start = c.new-machine.result in
      let same = c.new-machine.ensures.plan in
      subst (λ (k : Config). Ends (gateway_work way k) (g.D.Desk.state c.args.desk.now)
      (g.D.Desk.state c.run_one.new.desk)
      (Into c.args.out.now) c.args.ins.now c.run_one.result) same
      (ends_so _ _ _ _ _ _ _ _ _ _ (gateway_does way (GatewayMachine g.row.G.Denot g.G.FrameGateway) (λ m. m.plan.now)
      (λ m. g.G.FrameGateway.seen m.gateway m.plan.now) (λ m. g.G.FrameGateway.status m.gateway) (λ m. m.place)
      (λ m. m.ran)
      (λ m. m.ready) c.units_law.ensures c.front_law.ensures.grow c.ahead_law.ensures start.plan.now _
      (c.requires.count ∙ ap (λ (k : Config). input_count way k) (sym same))) c.run_one.result c.run_one.ensures);
}
