use Rattle.std.proofs.Common.{sym}
use Rattle.gateway_run.proofs.EventLemmas.{finished_is}
use Rattle.gateway_run.proofs.apart.GatewayFrameGateway.next_ts.Goals as goal

pub returns-clause-finished : goal.returns-clause-finished
returns-clause-finished c = λ events stands. sym (finished_is c.args.self.now c.args._plan.now events stands)
