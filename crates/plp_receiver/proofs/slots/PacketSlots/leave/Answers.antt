use Rattle.std.proofs.Common.{◌∙◌, ◌+◌, ap, sym}
use Rattle.plp_receiver.specs.Window.{Status}
use Rattle.plp_receiver.specs.Times.{due_after}
use Rattle.plp_receiver.specs.declared.slot_rule.SlotRule.{SlotRule}
use Rattle.plp_receiver.proofs.SlotsStandLemmas.{left_range}
use Rattle.plp_receiver.proofs.slots.PacketSlots.leave.Goals as goal

pub invariant_of-self : goal.invariant_of-self
invariant_of-self c =
    let p = c.args.self.now in
    let rule = ap (λ (s : Status). s.rule) c.leave.ensures in
    record {
      same = p.same ∙ sym rule;
      reached = left_range c.slot_time_law.ensures.count_rises p.window c.leave.new.self p.in_frame p.frame
          c.requires.within
          p.reached c.leave.ensures;
      known = ap (λ (s : Status). s.due_end) c.leave.ensures
          ∙ ap (λ (q : SlotRule). due_after q (p.frame + 1)) (sym rule);
    }
