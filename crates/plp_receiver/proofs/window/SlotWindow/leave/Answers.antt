use Rattle.std.proofs.Common.{◌+◌, ◌-◌, arith}
use Rattle.plp_receiver.proofs.TimeLemmas.{released_late, all_rise}
use Rattle.plp_receiver.proofs.window.SlotWindow.leave.Goals as goal

pub invariant_of-self : goal.invariant_of-self
invariant_of-self c =
    let w = c.args.self.now in
    let spread = w.sound.spread in
    let rises = c.slot_time_law.ensures.count_rises in
    let late = released_late c.release_law.ensures.old rises w.rule w.sound (c.args.frame + 1) in
    let before = all_rise rises w.rule w.sound (c.args.frame + 1 - w.rule.spread) c.args.frame
    (omega (arith, spread)) in
    record {
      sound = w.sound;
      room = w.room;
      span = w.span;
      known = omega (arith, late, before, c.requires.came, c.due_after-due_end.ensures);
    }
