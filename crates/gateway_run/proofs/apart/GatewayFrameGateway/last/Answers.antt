use Rattle.gateway_run.proofs.ApartLemmas.{last_apart}
use Rattle.gateway_run.proofs.apart.GatewayFrameGateway.last.Goals as goal

pub returns : goal.returns
returns c = λ events stands. last_apart c.args._plan.now events c.last.result
    (c.last.ensures c.args._plan.now events stands)
