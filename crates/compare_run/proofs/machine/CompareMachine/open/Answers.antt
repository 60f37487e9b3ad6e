use Rattle.std.proofs.Common.{[], ◌++◌, ℕ, List, ◌∙◌, refl, ap, sym, subst, arith, length}
use Rattle.compare_run.specs.Comparing.{PlpDifference, plp_differences}
use Rattle.compare_run.specs.TallyStandsFor.{TallyStandsFor}
use Rattle.compare_run.proofs.GrowLemmas.{answers_nothing}
use Rattle.compare_run.proofs.LineLemmas.{nothing_known}
use Rattle.compare_run.proofs.PlpLemmas.{no_plp}
use Rattle.compare_run.specs.Lines.{known_text}
use Rattle.compare_run.proofs.machine.CompareMachine.open.Goals as goal

pub returns-clause-becomes : goal.returns-clause-becomes
returns-clause-becomes c =
    let a = c.in_ok-a.ensures in
    let b = c.in_ok-b.ensures in
    let k = c.args.plan.now in
    let count = c.plps-plps.ensures in
    record {
      config = refl;
      plps = c.in_ok-carried.ensures.plps;
      given_a = [];
      given_b = [];
      both = record {
        of_a = record { network = a.config; stands = a.stands };
        of_b = record { network = b.config; stands = b.stands };
        behind_a = record { waits = λ w is. omega arith; idle = λ _ _. omega arith };
        behind_b = record { waits = λ w is. omega arith; idle = λ _ _. omega arith };
        next_is = refl;
        early = omega arith;
      };
      low = 0;
      few = omega arith;
      due_a = λ n lt. absurd (omega (arith, lt));
      due_b = λ n lt. absurd (omega (arith, lt));
      told = λ ga gb are_a are_b.
          let none = answers_nothing k ga gb in
          let of : ℕ → List PlpDifference = plp_differences k ga gb in
          record {
            carried = c.in_ok-carried.ensures.stands ga gb;
            tallied = subst (TallyStandsFor c.new.result) (sym none) c.new.ensures;
            few = (let e = ap length none in omega (arith, e));
            said_is = no_plp k c.in_ok-carried.carried 0 c.plps-plps.result (omega (arith, count))
                ∙ sym (ap (known_text of) none ∙ nothing_known of);
            since = ([], sym (ap (λ (l : List ℕ). l ++ []) (nothing_known of)));
          };
      over = λ on. absurd cc;
    }
