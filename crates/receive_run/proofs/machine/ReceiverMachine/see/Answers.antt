use Rattle.std.proofs.Common.{ℕ, Some, inl, refl, ap}
use Rattle.receive_run.proofs.TakenLemmas.{taken_as}
use Rattle.receive_run.proofs.machine.ReceiverMachine.see.Goals as goal

pub returns-in-Taken-clause-sees : goal.returns-in-Taken-clause-sees
returns-in-Taken-clause-sees c =
    let m = c.args.self.now in
    let l = c.in-Taken.ensures in
    let t = taken_as _ _ _ _ _ _ _ c.in-Taken.frame m.network c.expected-expected.ensures l.0 in
    inl (record {
      frame = c.in-Taken.frame;
      takes = t;
      same = l.2;
      due = c.due_law.ensures;
      frame_is = l.1;
      first = ap (λ (n : ℕ). Some n) c.unwrap_or.ensures;
      slots = refl;
      misplaced = refl;
      feed = λ views came ended s. c.accept.ensures.stands views came ended t.view t.len s t.begins;
      coming = c.accept.ensures.coming;
      left = c.accept.ensures.left;
    })
