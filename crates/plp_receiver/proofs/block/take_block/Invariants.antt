use Rattle.std.proofs.Common.{length, ◌-◌, ◌≡◌, ◌<◌, ◌≤◌, ◌++◌, List, Some}
use Rattle.plp_receiver.specs.declared.slot_rule.SlotRule.{SlotRule}
use Rattle.plp_receiver.specs.Strings.{Item}
use Rattle.plp_receiver.specs.TakenBlocks.{Both, KeepsTimes, block_of, front_of, IsBegun}
use Rattle.plp_receiver.proofs.block.take_block.Given as goal

abbrev pub invariant-loop-at : goal.invariant-loop-at
invariant-loop-at l = record {
  first : l.at < length l.block.field.now → l.block.first ≡ Some l.start;
  begun : l.at < length l.block.field.now → IsBegun l.start l.at l.assembler.rule.up_len;
  within : l.at ≤ length l.block.field.now;
  times : KeepsTimes l.fn.window l.window;
  rule : l.assembler.rule ≡ l.fn.assembler.rule;
  both : (r : SlotRule) (z : List Item) → Both r z l.fn.assembler l.fn.window
      → Both r (z ++ front_of r.up_len l.epoch (block_of l.block) l.at) l.assembler l.window;
}

abbrev pub decreases-loop-at : goal.decreases-loop-at
decreases-loop-at l = length l.block.field.now - l.at
