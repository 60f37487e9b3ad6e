use Rattle.std.proofs.Common.{◌<◌, length, rules, arith, ◌∙◌, ap}
use Rattle.gateway_core.specs.StandsFor.{Status}
use Rattle.gateway_core.proofs.PassLemmas.{passing_none, passing_more}
use Rattle.gateway_core.proofs.passing.pass_on.Goals as goal

pub loop-plp-init : goal.loop-plp-init
loop-plp-init c = passing_none _ _ _ _ _

pub pass_one-requires-clause-plps : goal.pass_one-requires-clause-plps
pass_one-requires-clause-plps c = ap (λ (s : Status). s.plps) c.loop-plp.invariant.status ∙ c.requires.plps

pub pass_one-requires-clause-wanted : goal.pass_one-requires-clause-wanted
pass_one-requires-clause-wanted c = λ on some.
    let i = c.loop-plp.invariant in
    let below : c.loop-plp.plp < length c.args.plan.now.plps = search (rules, arith) in
    let w = c.requires.wanted c.loop-plp.plp below on (λ z. some (i.held.behind c.loop-plp.plp (omega arith) ∙ z)) in
    let same = i.behind c.loop-plp.plp (omega arith) in
    omega (arith, w, same)

pub pass_one-requires-clause-given : goal.pass_one-requires-clause-given
pass_one-requires-clause-given c = ap (λ (s : Status). s.unit) c.loop-plp.invariant.status ∙ c.requires.given

pub loop-plp-preserved : goal.loop-plp-preserved
loop-plp-preserved c =
    let one = c.pass_one.ensures in
    passing_more _ _ _ _ _ _ _ _ _ _ c.loop-plp.invariant one.stands one.others one.same one.fewer one.status one.held
