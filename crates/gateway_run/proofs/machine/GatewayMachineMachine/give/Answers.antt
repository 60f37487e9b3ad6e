use Rattle.gateway_run.proofs.GiveLemmas.{nothing_gave}
use Rattle.gateway_run.proofs.machine.GatewayMachineMachine.give.Goals as goal

pub returns-in-Begins-clause-becomes : goal.returns-in-Begins-clause-becomes
returns-in-Begins-clause-becomes g c = λ start events h. (
  h.0,
  nothing_gave g.G.FrameGateway.sharing c.events_law.ensures c.args.self.now.plan.now events
      (g.G.FrameGateway.seen c.begin-self.new.gateway c.args.self.now.plan.now).stands _ _
      (c.begin-self.ensures.holds events h.1),
)
