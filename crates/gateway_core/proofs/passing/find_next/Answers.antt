use Rattle.std.proofs.Common.{◌<◌, length, rules, arith}
use Rattle.gateway_core.proofs.MoveLemmas.{then_moves, settled_on, settled_next}
use Rattle.gateway_core.proofs.passing.find_next.Goals as goal

pub returns-in-Some-clause-finds : goal.returns-in-Some-clause-finds
returns-in-Some-clause-finds c =
    let below : c.loop-turn.turn < length c.args.plan.now.plps = search (rules, arith) in
    let s = c.in-Some.ensures in
    record {
      turn = c.loop-turn.turn;
      inside = below;
      first = s.first;
      before = settled_on c.args.plan.now c.loop-turn.gateway c.settle_first.new.gateway c.loop-turn.turn
          c.rules_law.ensures.plan.rules below s.first (s.others s.first) c.loop-turn.invariant.settled;
      next = s.settles s.first;
    }

pub loop-turn-preserved : goal.loop-turn-preserved
loop-turn-preserved c =
    let below : c.loop-turn.turn < length c.args.plan.now.plps = search (rules, arith) in
    let s = c.in_default.ensures in
    record {
      moves = then_moves c.loop-turn.invariant.moves s.moves;
      settled = settled_next c.args.plan.now c.loop-turn.gateway c.settle_first.new.gateway c.loop-turn.turn
          c.rules_law.ensures.plan.rules below s.others s.same s.settles c.loop-turn.invariant.settled;
    }
