use Rattle.std.proofs.Common.{below_more}
use Rattle.gateway_core.specs.Slots.{HasCome}
use Rattle.gateway_core.proofs.slots.next_in.Goals as goal

pub loop-plp-preserved : goal.loop-plp-preserved
loop-plp-preserved c =
    below_more (HasCome c.args.plan.now c.args.gateway.now c.args.held.now c.args.turn) c.loop-plp.plp
    c.loop-plp.invariant
    (c.is_to_come.ensures.none c.if-is_to_come.false)
