use Rattle.std.proofs.Common.{ap}
use Rattle.gateway_core.specs.IsFed.{Bounds}
use Rattle.gateway_core.proofs.InputsLemmas.{fed_offered, one_fewer, others_want, same_most}
use Rattle.gateway_core.proofs.inputs.offer.Goals as goal

pub returns-clause-fed : goal.returns-clause-fed
returns-clause-fed c = λ config events.
    fed_offered c.early_fits_law.ensures.early c.args.inputs.now c.args.plp c.index-inputs-plp.result c.offer.new.self
    c.args.packet.now c.args.pool.now c.offer.new.pool config events c.requires.place
    c.offer.ensures.fed c.offer.ensures.others

pub returns-clause-most : goal.returns-clause-most
returns-clause-most c =
    same_most c.args.inputs.now c.args.plp c.index-inputs-plp.result c.offer.new.self c.requires.place
    (ap (λ (b : Bounds). b.most) c.offer.ensures.bounds)

pub returns-clause-fewer : goal.returns-clause-fewer
returns-clause-fewer c =
    one_fewer c.args.inputs.now c.args.plp c.index-inputs-plp.result c.offer.new.self c.requires.place
    c.offer.ensures.wanted

pub returns-clause-others : goal.returns-clause-others
returns-clause-others c = λ other differ. others_want c.args.inputs.now c.args.plp c.offer.new.self other differ
