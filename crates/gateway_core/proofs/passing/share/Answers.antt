use Rattle.std.proofs.Common.{◌∙◌, ap, ap₂}
use Rattle.std.specs.Prelude.{is_some, unwrap_or}
use Rattle.gateway_core.proofs.PassLemmas.{members_wanted, shared_stands}
use Rattle.gateway_core.proofs.passing.share.Goals as goal

pub pass_on-requires-clause-wanted : goal.pass_on-requires-clause-wanted
pass_on-requires-clause-wanted c = λ plp inside.
    members_wanted c.args.plan.now c.args.gateway.now c.offer.new.self c.args.held.now c.args.turn c.requires.common
    c.requires.wanted
    c.offer.ensures.others plp

pub returns-clause-stands : goal.returns-clause-stands
returns-clause-stands c = λ d done s.
    shared_stands c.args.plan.now d done c.args.held.now c.args.turn _ c.unwrap_or.result c.is_some.result
    c.pass_on.new.gateway
    (c.unwrap_or.ensures ∙ ap₂ unwrap_or c.shared_in-shared.ensures c.canonical.ensures)
    (c.is_some.ensures ∙ ap is_some c.shared_in-shared.ensures)
    (c.pass_on.ensures.stands d _ (c.offer.ensures.stands d done s))

pub returns-clause-others : goal.returns-clause-others
returns-clause-others c = λ plp off apart. c.pass_on.ensures.others plp off apart ∙ c.offer.ensures.others plp apart
