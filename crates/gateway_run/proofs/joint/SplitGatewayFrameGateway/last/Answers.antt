use Rattle.gateway_run.proofs.JointLemmas.{last_joint}
use Rattle.gateway_run.proofs.joint.SplitGatewayFrameGateway.last.Goals as goal

pub returns : goal.returns
returns c = λ events stands.
    last_joint c.args.plan.now events c.last.result c.rules_law.ensures.plan.rules
    (c.last.ensures c.args.plan.now events stands)
