use Rattle.std.proofs.Common.{ℕ, ◌++◌, List, Some, ap, subst, ◌∙◌}
use Rattle.plp_receiver.specs.TakenBlocks.{Both, block_of}
use Rattle.plp_receiver.specs.SlotEpochs.{string_of}
use Rattle.plp_receiver.specs.Strings.{Item, block_items}
use Rattle.plp_receiver.specs.Times.{epoch_of}
use Rattle.plp_receiver.specs.SlotsStandFor.{StandsWithin, blocks_items}
use Rattle.plp_receiver.specs.declared.slot_rule.SlotRule.{SlotRule}
use Rattle.plp_receiver.proofs.SlotsStandLemmas.{takes}
use Rattle.plp_receiver.proofs.slots.PacketSlots.take.Goals as goal

pub returns-clause-stands : goal.returns-clause-stands
unfolding StandsWithin
returns-clause-stands c = λ r first count epochs blocks released h.
    let p = c.args.self.now in
    let z : List Item =
    string_of r.up_len (epoch_of r first) epochs ++ blocks_items r.up_len (epoch_of r p.frame) blocks in
    takes r first p.frame count epochs blocks (Some (block_of c.args.block.now)) released p.assembler
    c.take_block.new.assembler
    p.window c.take_block.new.window h c.take_block.ensures.times
    (subst (λ (m : ℕ). Both r (z ++ block_items r.up_len m (block_of c.args.block.now)) c.take_block.new.assembler
    c.take_block.new.window)
    (c.epoch_of-epoch.ensures.value ∙ ap (λ (q : SlotRule). epoch_of q p.frame) h.both.rule)
    (c.take_block.ensures.both r z h.both))
