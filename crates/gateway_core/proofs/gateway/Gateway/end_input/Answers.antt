use Rattle.std.proofs.Common.{rules, ◌∙◌, ◌++◌, ◌∷◌, [], Bool, List, ℕ, refl, sym, subst}
use Rattle.std.proofs.lemmas.List.{with_items_is}
use Rattle.gateway_core.specs.Events.{Ended}
use Rattle.gateway_core.specs.InputsStandFor.{AllFed}
use Rattle.gateway_core.specs.Left.{early_of}
use Rattle.gateway_core.specs.StandsFor.{GatewayStandsFor}
use Rattle.gateway_core.specs.declared.input.Input.{Input}
use Rattle.gateway_core.proofs.HoldsLemmas.{holds_with, supplied_by, begun_same}
use Rattle.gateway_core.proofs.InputsLemmas.{or_false, back}
use Rattle.gateway_core.proofs.gateway.Gateway.end_input.Goals as goal

pub returns-clause-stands : goal.returns-clause-stands
unfolding GatewayStandsFor
returns-clause-stands c = λ config events h.
    let early : ℕ → List (List Bool) = early_of c.args.self.now.plan.now c.args.self.now.frame in
    let old : AllFed c.deref_mut.result.now early config events =
    subst (λ (l : List Input). AllFed l early config events) (sym c.deref_mut.ensures.value) h.1.fed in
    let items = with_items_is c.args.self.now.inputs c.end.new.inputs (c.end.auto.inputs ∙ c.deref_mut.ensures.len) in (
      h.0,
      holds_with (Ended c.args.plp) h.1 refl (sym (or_false c.args.self.now.flow.finished))
          (subst (λ (l : List Input). AllFed l early config (events ++ Ended c.args.plp ∷ [])) (sym items)
          (c.end.ensures.fed early config events old)) (λ j on. refl) (λ all given f. f),
      λ all more. h.2 all (back config events (Ended c.args.plp) all (λ j on. refl) more),
    )

pub returns-clause-none : goal.returns-clause-none
returns-clause-none c =
    let items = with_items_is c.args.self.now.inputs c.end.new.inputs (c.end.auto.inputs ∙ c.deref_mut.ensures.len) in
    rw items c.end.ensures.none

pub returns-clause-others : goal.returns-clause-others
returns-clause-others c =
    let items = with_items_is c.args.self.now.inputs c.end.new.inputs (c.end.auto.inputs ∙ c.deref_mut.ensures.len) in
    rw (items, ← c.deref_mut.ensures.value) c.end.ensures.others

pub invariant_of-self : goal.invariant_of-self
invariant_of-self c =
    let g = c.args.self.now in
    let p = g.plan.now in
    let early : ℕ → List (List Bool) = early_of p g.frame in
    let items = with_items_is g.inputs c.end.new.inputs (c.end.auto.inputs ∙ c.deref_mut.ensures.len) in
    record {
      whole = search rules;
      most = search rules;
      early = search rules;
      lists = search rules;
      chunks = search rules;
      over = search rules;
      fit = search rules;
      supplied = supplied_by g.supplied (λ events e fed. (
        events ++ Ended c.args.plp ∷ [],
        e ∙ sym (begun_same events (Ended c.args.plp) refl),
        subst (λ (l : List Input). AllFed l early p (events ++ Ended c.args.plp ∷ [])) (sym items)
            (c.end.ensures.fed early p events (subst (λ (l : List Input). AllFed l early p events)
            (sym c.deref_mut.ensures.value) fed)),
      ));
    }
