use Rattle.std.proofs.Common.{◌≡◌, ◌∙◌, ◌+◌, ◌++◌, ◌∷◌, [], Bool, List, ℕ, length, ap, sym, subst}
use Rattle.std.specs.Vec.{with_items}
use Rattle.std.proofs.lemmas.List.{with_items_is}
use Rattle.plp_config.specs.declared.config.Config.{Config}
use Rattle.gateway_core.specs.Lists.{bits_in, own_in, later_in}
use Rattle.gateway_core.specs.Events.{Begun}
use Rattle.frame_writer.specs.Flowing.{Flows}
use Rattle.gateway_core.specs.InputsStandFor.{AllFed, CountsStay}
use Rattle.gateway_core.specs.Left.{Layout, Stays, left, early_of}
use Rattle.gateway_core.specs.StandsFor.{GatewayStandsFor, Holds}
use Rattle.gateway_core.specs.declared.input.Input.{Input}
use Rattle.frame_writer.proofs.FlowLemmas.{dry_when}
use Rattle.gateway_core.proofs.LeftLemmas.{over_left}
use Rattle.gateway_core.proofs.HoldsLemmas.{early_over, fed_kept, holds_begin, supplied_by, begun_with}
use Rattle.gateway_core.proofs.InputsLemmas.{most_stays, fit_on}
use Rattle.gateway_core.proofs.gateway.Gateway.begin_frame.Goals as goal

pub returns-clause-stands : goal.returns-clause-stands
unfolding GatewayStandsFor
returns-clause-stands c = λ config events h.
    let g = c.args.self.now in
    let f = g.frame in
    let p = g.plan.now in
    let begun = c.begin.new.self in
    let now = c.begin-2.new.source in
    let over = g.over (dry_when g.flow.dry _ _ g.flow.full (sym c.requires.given)) in
    let was : Holds g.inputs.items (early_of p f) g.signalling g.frames g.flow f.number (left p g.signalling f)
    p events =
    subst (λ (k : Config). Holds g.inputs.items (early_of p f) g.signalling g.frames g.flow f.number
    (left p g.signalling f) k events) (sym h.0) h.1 in
    let old : AllFed c.deref_mut.result.now (bits_in f.blocks) p events =
    subst (λ (l : List Input). AllFed l (bits_in f.blocks) p events) (sym c.deref_mut.ensures.value)
    (early_over g.inputs.items p f.number f.step f.plp f.blocks p events over was.fed) in
    let stay : CountsStay p events g.frames c.deref_mut-2.result.now =
    subst (λ (l : List ℕ). CountsStay p events g.frames l) (sym c.deref_mut-2.ensures.value)
    (subst (λ (k : Config). CountsStay k events g.frames f.counts.items) (sym h.0) h.2) in
    let items = with_items_is g.inputs c.cut.new.inputs (c.cut.auto.inputs ∙ c.deref_mut.ensures.len) in
    let counts = with_items_is f.counts c.cut.new.counts (c.cut.auto.counts ∙ c.deref_mut-2.ensures.len) in
    let later : ℕ → List (List Bool) = later_in p g.frames c.cut.new.pool in
    let fed : AllFed (with_items g.inputs c.cut.new.inputs).items (early_of p now) p (events ++ Begun ∷ []) =
    fed_kept _ later (early_of p now) p (events ++ Begun ∷ []) (λ j. ap (λ (s : Stays). s.early j)
    c.begin-2.ensures.kept ∙ c.begin.ensures.early j)
    (subst (λ (l : List Input). AllFed l later p (events ++ Begun ∷ [])) (sym items)
    (c.cut.ensures.fed events was.frames_are old)) in
    let number : begun.number ≡ g.frames = ap (λ (l : Layout). l.number) c.begin.ensures.layout in
    let new = holds_begin g.inputs.items (with_items g.inputs c.cut.new.inputs).items (early_of p f)
    (early_of p now) g.signalling g.frames g.flow c.begin-2.new.self f.number now.number (left p g.signalling f)
    (left p g.signalling begun)
    (left p g.signalling now) (with_items f.counts c.cut.new.counts).items
    (own_in p g.frames c.cut.new.pool) p events
    (over_left p g.signalling f over) c.begin-2.ensures.finished fed c.rules_law.ensures.ranges.plps.0
    (λ all more. counts ∙ c.cut.ensures.counts events was.frames_are old stay all more)
    (λ all more j lt. c.cut.ensures.blocks events was.frames_are old all more j lt)
    (c.begin.ensures.all g.signalling)
    (λ all given k. subst (λ (n : ℕ). Flows c.begin-2.new.self.outlet p n (left p g.signalling now) all given)
    (sym c.begin-2.ensures.number)
    (c.begin-2.ensures.feeds.flows all given
    (subst (λ (n : ℕ). Flows g.flow.outlet p n (left p g.signalling begun) all given) (sym number) k))) was in
    let kept : now.counts.items ≡ c.cut.new.counts = ap (λ (s : Stays). s.layout.counts) c.begin-2.ensures.kept
    ∙ ap (λ (l : Layout). l.counts) c.begin.ensures.layout ∙ counts in (
      h.0,
      subst (λ (k : Config). Holds (with_items g.inputs c.cut.new.inputs).items (early_of p now) g.signalling
          (g.frames + 1) c.begin-2.new.self now.number (left p g.signalling now) k (events ++ Begun ∷ [])) h.0 new,
      subst (λ (k : Config). CountsStay k (events ++ Begun ∷ []) (g.frames + 1) now.counts.items) h.0
          (subst (λ (l : List ℕ). CountsStay p (events ++ Begun ∷ []) (g.frames + 1) l) (sym kept)
          (c.cut.ensures.stay events was.frames_are old stay)),
    )

pub cut-requires-clause-ready : goal.cut-requires-clause-ready
cut-requires-clause-ready c =
    let g = c.args.self.now in
    let f = g.frame in
    let over = g.over (dry_when g.flow.dry _ _ g.flow.full (sym c.requires.given)) in
    supplied_by g.supplied (λ events e fed. (
      events,
      e,
      subst (λ (l : List Input). AllFed l (bits_in f.blocks) g.plan.now events) (sym c.deref_mut.ensures.value)
          (early_over g.inputs.items g.plan.now f.number f.step f.plp f.blocks g.plan.now events over fed),
    ))

pub begin-requires-clause-fit : goal.begin-requires-clause-fit
begin-requires-clause-fit c =
    let g = c.args.self.now in
    let counts = with_items_is g.frame.counts c.cut.new.counts (c.cut.auto.counts ∙ c.deref_mut-2.ensures.len) in
    fit_on g.plan.now g.inputs.items c.deref_mut.result.now g.frame.counts.items c.deref_mut-2.result.now
    c.cut.new.counts _
    c.deref_mut.ensures.value c.deref_mut-2.ensures.value counts c.cut.ensures.fit g.most g.fit

pub invariant_of-self-2-clause-most : goal.invariant_of-self-2-clause-most
invariant_of-self-2-clause-most c =
    let g = c.args.self.now in
    let p = g.plan.now in
    let items = with_items_is g.inputs c.cut.new.inputs (c.cut.auto.inputs ∙ c.deref_mut.ensures.len) in
    most_stays g.inputs.items c.cut.new.inputs c.deref_mut.result.now _ p c.deref_mut.ensures.value items
    (c.cut.auto.inputs ∙ ap length c.deref_mut.ensures.value) c.cut.ensures.most g.most

pub invariant_of-self-2-clause-fit : goal.invariant_of-self-2-clause-fit
invariant_of-self-2-clause-fit c =
    let g = c.args.self.now in
    let f = g.frame in
    let p = g.plan.now in
    let counts = with_items_is f.counts c.cut.new.counts (c.cut.auto.counts ∙ c.deref_mut-2.ensures.len) in
    fit_on p g.inputs.items c.deref_mut.result.now f.counts.items c.deref_mut-2.result.now c.cut.new.counts _
    c.deref_mut.ensures.value c.deref_mut-2.ensures.value
    (ap (λ (s : Stays). s.layout.counts) c.begin-2.ensures.kept ∙ ap (λ (l : Layout). l.counts)
    c.begin.ensures.layout
    ∙ counts) c.cut.ensures.fit g.most g.fit

pub invariant_of-self-2-clause-supplied : goal.invariant_of-self-2-clause-supplied
invariant_of-self-2-clause-supplied c =
    let g = c.args.self.now in
    let f = g.frame in
    let p = g.plan.now in
    let now = c.begin-2.new.source in
    let over = g.over (dry_when g.flow.dry _ _ g.flow.full (sym c.requires.given)) in
    let items = with_items_is g.inputs c.cut.new.inputs (c.cut.auto.inputs ∙ c.deref_mut.ensures.len) in
    let later : ℕ → List (List Bool) = later_in p g.frames c.cut.new.pool in
    supplied_by g.supplied (λ events frames fed. (
      events ++ Begun ∷ [],
      ap (λ (n : ℕ). n + 1) frames ∙ sym (begun_with events Begun),
      fed_kept _ later (early_of p now) p (events ++ Begun ∷ [])
          (λ j. ap (λ (s : Stays). s.early j) c.begin-2.ensures.kept ∙ c.begin.ensures.early j)
          (subst (λ (l : List Input). AllFed l later p (events ++ Begun ∷ [])) (sym items)
          (c.cut.ensures.fed events frames
          (subst (λ (l : List Input). AllFed l (bits_in f.blocks) p events) (sym c.deref_mut.ensures.value)
          (early_over g.inputs.items p f.number f.step f.plp f.blocks p events over fed)))),
    ))
