use Rattle.std.proofs.Common.{◌<◌, length, rules, arith, sym, ◌∙◌}
use Rattle.gateway_core.specs.Slots.{is_held_in}
use Rattle.gateway_core.proofs.RangeLemmas.{any_more, any_found}
use Rattle.gateway_core.proofs.slots.has_held.Goals as goal

pub returns-then-is_held : goal.returns-then-is_held
returns-then-is_held c =
    let below : c.loop-plp.plp < length c.args.plan.now.plps = search (rules, arith) in
    sym (any_found (is_held_in c.args.plan.now c.args.held.now c.args.turn) c.loop-plp.plp (length c.args.plan.now.plps)
    below
    (sym c.is_held.ensures ∙ c.if-is_held.true))

pub loop-plp-preserved : goal.loop-plp-preserved
loop-plp-preserved c =
    any_more (is_held_in c.args.plan.now c.args.held.now c.args.turn) c.loop-plp.plp c.loop-plp.invariant
    (sym c.is_held.ensures ∙ c.if-is_held.false)
