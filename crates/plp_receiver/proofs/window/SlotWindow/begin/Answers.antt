use Rattle.std.proofs.Common.{ap, arith, length}
use Rattle.plp_receiver.specs.Times.{over_after}
use Rattle.plp_receiver.proofs.TimeLemmas.{released_late}
use Rattle.plp_receiver.proofs.window.SlotWindow.begin.Goals as goal

pub invariant_of-self : goal.invariant_of-self
invariant_of-self c =
    let w = c.args.self.now in
    let late = released_late c.release_law.ensures.old c.slot_time_law.ensures.count_rises w.rule w.sound
    c.args.frame in
    record {
      sound = w.sound;
      room = w.room;
      span = omega (arith, ap length c.requires.empty);
      known =
          omega (
            arith,
            late,
            c.over_after-first.ensures,
            ap (over_after w.rule) c.saturating_sub.ensures,
            c.due_after-due_end.ensures,
          );
    }
