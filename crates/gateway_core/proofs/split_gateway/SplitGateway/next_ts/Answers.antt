use Rattle.std.proofs.Common.{◌++◌, ◌∷◌, [], ◌∙◌, ap, sym, refl}
use Rattle.terms.proofs.CaseLemmas.{bool_cases}
use Rattle.gateway_core.specs.Events.{Gave}
use Rattle.gateway_core.specs.StandsFor.{Status}
use Rattle.gateway_core.specs.SplitStandsFor.{SplitGatewayStandsFor}
use Rattle.gateway_core.proofs.StandLemmas.{same_wanted, quiet_works, worked_by, kept_works, all_continue}
use Rattle.gateway_core.proofs.split_gateway.SplitGateway.next_ts.Goals as goal

pub returns-clause-unit : goal.returns-clause-unit
unfolding SplitGatewayStandsFor
returns-clause-unit c = λ on d events s inputs k more none.
    let w = s.1 in
    rw (← s.0, ← w.splits.begun_is, ← w.splits.given_is) (c.next_ts.ensures.unit on _ w.done w.stands _
    (all_continue inputs w.splits (rw (← s.0) at k)) more (λ fin. none (sym w.splits.finished_is ∙ fin)))

pub returns-clause-stands : goal.returns-clause-stands
unfolding SplitGatewayStandsFor
returns-clause-stands c = λ on d events s.
    (s.0, quiet_works Gave (λ k. refl) (λ k. refl) (c.next_ts.ensures.stands on) s.1)

pub returns-clause-still : goal.returns-clause-still
unfolding SplitGatewayStandsFor
returns-clause-still c = λ off d events s. (s.0, kept_works (c.next_ts.ensures.still off) s.1)

pub invariant_of-self-clause-plps : goal.invariant_of-self-clause-plps
invariant_of-self-clause-plps c = ap (λ (s : Status). s.plps) c.next_ts.ensures.status ∙ c.args.self.now.plps

pub invariant_of-self-clause-wanted : goal.invariant_of-self-clause-wanted
invariant_of-self-clause-wanted c =
    let m = c.args.self.now in
    same_wanted m.plan.now m.gateway c.next_ts.new.self m.held.items m.wanted c.next_ts.ensures.wants

pub invariant_of-self-clause-worked : goal.invariant_of-self-clause-worked
invariant_of-self-clause-worked c =
    worked_by c.args.self.now.worked (λ events works. bool_cases c.next_ts.result
    (λ on. (events ++ Gave ∷ [], quiet_works Gave (λ k. refl) (λ k. refl) (c.next_ts.ensures.stands on) works))
    (λ off. (events, kept_works (c.next_ts.ensures.still off) works)))

pub returns-clause-caught_up : goal.returns-clause-caught_up
unfolding SplitGatewayStandsFor
returns-clause-caught_up c = λ off d events s going inputs k.
    let w = s.1 in
    rw (← s.0, ← w.splits.begun_is, ← w.splits.given_is) (c.next_ts.ensures.caught_up off _ w.done w.stands
    (w.splits.finished_is ∙ going) _ (all_continue inputs w.splits (rw (← s.0) at k)))

pub returns-clause-none : goal.returns-clause-none
unfolding SplitGatewayStandsFor
returns-clause-none c = λ off d events s over inputs k.
    let w = s.1 in
    rw (← s.0, ← w.splits.begun_is, ← w.splits.given_is) (c.next_ts.ensures.none off _ w.done w.stands
    (w.splits.finished_is ∙ over) _ (all_continue inputs w.splits (rw (← s.0) at k)))
