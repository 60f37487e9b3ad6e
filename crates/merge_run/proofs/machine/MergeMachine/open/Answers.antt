use Rattle.std.proofs.Common.{[], refl, arith}
use Rattle.merge_run.proofs.ShownLemmas.{sends_opened, reading_opened, live_opened, ran_opened}
use Rattle.merge_run.proofs.machine.MergeMachine.open.Goals as goal

pub returns-clause-becomes : goal.returns-clause-becomes
returns-clause-becomes c =
    let a = c.in_ok-a.ensures in
    let b = c.in_ok-b.ensures in
    let g = c.new.ensures in
    let k = c.args.plan.now in
    record {
      config = refl;
      plan = c.rules_law.ensures.plan;
      given_a = [];
      given_b = [];
      both = record {
        of_a = record { network = a.config; stands = a.stands };
        of_b = record { network = b.config; stands = b.stands };
        behind_a = record { waits = λ w is. omega arith; idle = λ _ _. omega arith };
        behind_b = record { waits = λ w is. omega arith; idle = λ _ _. omega arith };
        next_is = refl;
        early = omega arith;
      };
      sends = sends_opened k c.new.result g.config g.stands;
      ran_is = ran_opened k;
      counts = record { frames = omega arith; parts = refl; units = omega arith };
      live = live_opened k;
      is_in = reading_opened k c.new.result g.unit g.finished;
    }
