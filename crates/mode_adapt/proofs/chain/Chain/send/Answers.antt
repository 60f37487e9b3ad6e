use Rattle.std.proofs.Common.{◌+◌, ◌-◌, length, ap, ◌∙◌, length-drop, arith}
use Rattle.std.specs.Int.{div_ceil}
use Rattle.mode_adapt.proofs.BlockLemmas.{starts_on}
use Rattle.mode_adapt.proofs.chain.Chain.send.Goals as goal

pub invariant_of-self-clause-starts : goal.invariant_of-self-clause-starts
invariant_of-self-clause-starts c =
    let old = c.args.self.now in
    let bytes = ap length c.drop_front.ensures.items ∙ length-drop c.args.count old.pending.items in
    let slots = ap length c.drop_front-2.ensures.items ∙ length-drop (c.div_ceil.result - c.div_ceil-2.result)
    old.slots.items in
    let after = c.div_ceil.ensures ∙ ap (div_ceil (old.sent + c.args.count)) c.from-up_bytes.ensures in
    let before = c.div_ceil-2.ensures ∙ ap (div_ceil old.sent) c.from-up_bytes.ensures in
    starts_on old.settings.up_bytes old.sent (length old.pending.items) old.slots.len c.args.count _ _
    (omega (arith, old.settings.up)) old.starts c.requires.inside (omega (arith, bytes))
    (omega (arith, slots, after, before))
