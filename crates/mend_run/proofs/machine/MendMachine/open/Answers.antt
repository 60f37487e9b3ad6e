use Rattle.std.proofs.Common.{ℕ, [], length, refl, sym, subst, arith}
use Rattle.plp_config.specs.Rules.{PidRange}
use Rattle.mend_run.specs.Row.{HaveCome}
use Rattle.mend_run.proofs.ShownLemmas.{shown_opened}
use Rattle.mend_run.proofs.machine.MendMachine.open.Goals as goal

pub returns-clause-becomes : goal.returns-clause-becomes
returns-clause-becomes c =
    let k = c.args.plan.now in
    let come = c.in_ok-open_feeds.ensures.come in
    shown_opened k (length c.in_ok-open_feeds.field-0.items) _ refl
    (subst (λ (n : ℕ). HaveCome k n c.in_ok-open_feeds.field-0.items [] (λ i. [])) (sym come.count) come)
    c.in_ok-open.ensures.stands
    c.new.ensures.stands refl

pub invariant_of-result-clause-pid : goal.invariant_of-result-clause-pid
invariant_of-result-clause-pid c =
    let p = c.rules_law.ensures.plan.rules PidRange in
    omega (arith, p.1)

pub invariant_of-result-clause-of : goal.invariant_of-result-clause-of
invariant_of-result-clause-of c = c.in_ok-open_feeds.ensures.of
