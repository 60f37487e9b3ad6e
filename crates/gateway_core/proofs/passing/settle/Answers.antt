use Rattle.std.proofs.Common.{◌<◌, ◌∙◌, ap, rules, arith}
use Rattle.gateway_core.specs.StandsFor.{Status, wants_of}
use Rattle.gateway_core.proofs.MoveLemmas.{then_moves, wanted_on}
use Rattle.gateway_core.proofs.OnLemmas.{works_on}
use Rattle.gateway_core.proofs.passing.settle.Goals as goal

pub loop-gateway-preserved : goal.loop-gateway-preserved
loop-gateway-preserved c =
    let i = c.loop-gateway.invariant in
    let p = c.pass.ensures in
    let some : 0 < wants_of c.loop-gateway.gateway c.args.turn = search (rules, arith) in
    record {
      moves = then_moves i.moves (record {
        goes = λ events w. works_on c.groups_law.ensures.step c.loop-gateway.gateway c.args.turn
            c.rules_law.ensures.plan.rules
            (ap (λ (s : Status). s.plps) i.moves.status ∙ c.requires.plps) c.requires.turn c.requires.first some
            c.in_default.ensures p.held p.stands w;
        size = p.held.size;
        wanted = wanted_on c.args.plan.now c.loop-gateway.gateway c.pass.new.gateway c.loop-gateway.held c.pass.new.held
            c.args.turn (i.moves.size ∙ c.requires.held) p.held p.others i.moves.wanted;
        status = p.status;
      });
      others = λ plp off apart. p.others plp off apart ∙ i.others plp off apart;
    }
