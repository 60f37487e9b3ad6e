use Rattle.std.proofs.Common.{◌∙◌, ap}
use Rattle.gateway_core.specs.IsFed.{Bounds}
use Rattle.gateway_core.proofs.InputsLemmas.{fed_ended, one_wants, others_want, same_most}
use Rattle.gateway_core.proofs.inputs.end.Goals as goal

pub returns-clause-fed : goal.returns-clause-fed
returns-clause-fed c = λ early config events h. fed_ended c.args.inputs.now c.args.plp c.index-inputs-plp.result
    c.end.new.self
    early config events c.requires c.end.ensures.fed h

pub returns-clause-most : goal.returns-clause-most
returns-clause-most c =
    same_most c.args.inputs.now c.args.plp c.index-inputs-plp.result c.end.new.self c.requires
    (ap (λ (b : Bounds). b.most) c.end.ensures.bounds)

pub returns-clause-none : goal.returns-clause-none
returns-clause-none c = one_wants c.args.inputs.now c.args.plp c.end.new.self c.requires ∙ c.end.ensures.wanted

pub returns-clause-others : goal.returns-clause-others
returns-clause-others c = λ other differ. others_want c.args.inputs.now c.args.plp c.end.new.self other differ
