use Rattle.std.proofs.Common.{sym}
use Rattle.gateway_run.proofs.JointLemmas.{by_plp, continues_joint, finished_is}
use Rattle.gateway_run.proofs.joint.SplitGatewayFrameGateway.next_ts.Goals as goal

pub returns-clause-unit : goal.returns-clause-unit
returns-clause-unit c = λ gave events stands inputs k.
    let plan = c.args._plan.now in
    c.next_ts.ensures.unit gave plan events stands (by_plp plan inputs) (continues_joint plan events inputs k)

pub returns-clause-complete : goal.returns-clause-complete
returns-clause-complete c = λ none events stands off inputs k.
    let plan = c.args._plan.now in
    c.next_ts.ensures.caught_up none plan events stands off (by_plp plan inputs) (continues_joint plan events inputs k)

pub returns-clause-all : goal.returns-clause-all
returns-clause-all c = λ none events stands on inputs k.
    let plan = c.args._plan.now in
    c.next_ts.ensures.none none plan events stands on (by_plp plan inputs) (continues_joint plan events inputs k)

pub returns-clause-finished : goal.returns-clause-finished
returns-clause-finished c = λ events stands. sym (finished_is c.args.self.now c.args._plan.now events stands)
