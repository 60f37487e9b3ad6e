use Rattle.std.proofs.Common.{◌∙◌, List, ℕ, ap, sym, subst}
use Rattle.std.specs.declared.option.Option.{Option}
use Rattle.std.proofs.lemmas.List.{take_at}
use Rattle.gateway_core.specs.StandsFor.{Status}
use Rattle.plp_config.specs.declared.config.Config.{Config}
use Rattle.gateway_core.specs.Slots.{HeldWanted}
use Rattle.gateway_core.specs.SplitStandsFor.{SplitGatewayStandsFor, FindsWanted}
use Rattle.gateway_core.specs.Works.{Works}
use Rattle.gateway_core.proofs.FindLemmas.{finds_wanted}
use Rattle.gateway_core.proofs.StandLemmas.{after_move, asks_of, worked_by}
use Rattle.gateway_core.proofs.split_gateway.SplitGateway.next.Goals as goal

pub returns-clause-stands : goal.returns-clause-stands
unfolding SplitGatewayStandsFor
returns-clause-stands c = λ d events s.
    let m = c.args.self.now in
    let f = c.find_next.ensures.moves in (
      s.0,
      after_move m.plan.now m.gateway c.find_next.new.gateway m.held.items _ _ _ c.deref_mut.ensures.value
          (take_at c.find_next.new.held _ m.held.len (f.size ∙ c.deref_mut.ensures.len)) f events s.1,
    )

pub invariant_of-self-clause-plps : goal.invariant_of-self-clause-plps
invariant_of-self-clause-plps c = ap (λ (s : Status). s.plps) c.find_next.ensures.moves.status ∙ c.args.self.now.plps

pub invariant_of-self-clause-wanted : goal.invariant_of-self-clause-wanted
invariant_of-self-clause-wanted c =
    let m = c.args.self.now in
    let f = c.find_next.ensures.moves in
    subst (λ (h : List (Option (List ℕ))). HeldWanted m.plan.now c.find_next.new.gateway h)
    (sym (take_at c.find_next.new.held _ m.held.len (f.size ∙ c.deref_mut.ensures.len))) f.wanted

pub invariant_of-self-clause-worked : goal.invariant_of-self-clause-worked
invariant_of-self-clause-worked c =
    let m = c.args.self.now in
    worked_by m.worked (λ events works. (
      events,
      after_move m.plan.now m.gateway
          c.find_next.new.gateway m.held.items _ _ _ c.deref_mut.ensures.value
          (take_at c.find_next.new.held _ m.held.len (c.find_next.ensures.moves.size ∙ c.deref_mut.ensures.len))
          c.find_next.ensures.moves events works,
    ))

pub returns-clause-asks : goal.returns-clause-asks
returns-clause-asks c =
    let m = c.args.self.now in
    asks_of c.groups_law.ensures.step _ c.find_next.new.held c.find_next.result
    (take_at c.find_next.new.held _ m.held.len (c.find_next.ensures.moves.size ∙ c.deref_mut.ensures.len))
    c.rules_law.ensures.plan.rules
    c.find_next.ensures.finds

pub returns-clause-first : goal.returns-clause-first
unfolding SplitGatewayStandsFor
returns-clause-first c = λ d events s.
    let m = c.args.self.now in
    let f = c.find_next.ensures in
    let same = take_at c.find_next.new.held _ m.held.len (f.moves.size ∙ c.deref_mut.ensures.len) in
    subst (λ (e : Config). FindsWanted e events c.find_next.result) s.0
    (finds_wanted c.groups_law.ensures.step c.rules_law.ensures.plan.rules
    (ap (λ (s : Status). s.plps) f.moves.status ∙ m.plps)
    (subst (λ (h : List (Option (List ℕ))). Works m.plan.now c.find_next.new.gateway h events) same s.1)
    c.find_next.result f.finds)
