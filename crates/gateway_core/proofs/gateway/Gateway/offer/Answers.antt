use Rattle.std.proofs.Common.{rules, ◌≡◌, ◌∙◌, ◌++◌, ◌∷◌, [], List, length, refl, ap, sym, subst}
use Rattle.std.proofs.Common.{arith}
use Rattle.t2mi_packet.specs.declared.packet.Body.{Body}
use Rattle.frame_writer.specs.Flowing.{Flows}
use Rattle.std.proofs.Math.Logic.{∥∥₁_map}
use Rattle.std.proofs.lemmas.List.{with_items_is}
use Rattle.plp_config.specs.declared.config.Config.{Config}
use Rattle.gateway_core.specs.BlocksLeft.{blocks_left}
use Rattle.gateway_core.specs.Lists.{bits_in, own_in}
use Rattle.gateway_core.specs.Events.{Offered}
use Rattle.gateway_core.specs.InputsStandFor.{AllFed, AreSupplied}
use Rattle.gateway_core.specs.Left.{early_of}
use Rattle.frame_writer.specs.FramePackets.{l1_body}
use Rattle.gateway_core.specs.StandsFor.{GatewayStandsFor}
use Rattle.gateway_core.specs.declared.input.Input.{Input}
use Rattle.frame_writer.proofs.FlowLemmas.{dry_when}
use Rattle.gateway_core.proofs.HoldsLemmas.{early_over, over_early, over_same, holds_with, has_frame}
use Rattle.gateway_core.proofs.HoldsLemmas.{to_open, open_input, supplied_by, begun_same}
use Rattle.gateway_core.proofs.InputsLemmas.{or_false, back, one_supplied}
use Rattle.gateway_core.proofs.gateway.Gateway.offer.Goals as goal

pub returns-clause-stands : goal.returns-clause-stands
unfolding GatewayStandsFor
returns-clause-stands c = λ config events h.
    let g = c.args.self.now in
    let f = g.frame in
    let p = g.plan.now in
    let over = g.over (dry_when g.flow.dry _ _ g.flow.full (sym c.requires.given)) in
    let old : AllFed c.deref_mut.result.now (bits_in f.blocks) config events =
    subst (λ (l : List Input). AllFed l (bits_in f.blocks) config events) (sym c.deref_mut.ensures.value)
    (early_over g.inputs.items p f.number f.step f.plp f.blocks config events over h.1.fed) in
    let items = with_items_is g.inputs c.offer.new.inputs (c.offer.auto.inputs ∙ c.deref_mut.ensures.len) in
    let count : length c.deref_mut.result.now ≡ length config.plps = c.deref_mut.ensures.len ∙ g.whole
    ∙ ap (λ (k : Config). length k.plps) h.0 in
    let fed = c.offer.ensures.fed config events count (has_frame p config f.blocks h.0 g.chunks g.lists) old in
    let still = to_open c.args.plp c.args.packet.now events
    (open_input g.inputs.items (early_of p f) c.args.plp config events c.requires.place c.requires.wanted h.1.fed) in (
      h.0,
      holds_with (Offered c.args.plp c.args.packet.now) h.1 refl (sym (or_false g.flow.finished))
          (over_early _ p f.number f.step f.plp c.offer.new.pool config (events ++ Offered c.args.plp c.args.packet.now
          ∷ []) over (subst (λ (l : List Input). AllFed l (bits_in c.offer.new.pool) config
          (events ++ Offered c.args.plp c.args.packet.now ∷ [])) (sym items) fed)) still
          (λ all given flows. subst (λ (l : List Body). Flows g.flow.outlet config f.number l all given)
          (over_same p f.number f.step (l1_body p f.number g.signalling.pre g.signalling.conf f.dynamic.bits)
          (blocks_left p f.number (own_in p f.number f.blocks) f.plp f.first)
          (blocks_left p f.number (own_in p f.number c.offer.new.pool) f.plp f.first) over) flows),
      λ all more. h.2 all (back config events (Offered c.args.plp c.args.packet.now) all still more),
    )

pub returns-clause-fewer : goal.returns-clause-fewer
returns-clause-fewer c =
    let items = with_items_is c.args.self.now.inputs c.offer.new.inputs (c.offer.auto.inputs
    ∙ c.deref_mut.ensures.len) in
    rw (items, ← c.deref_mut.ensures.value) c.offer.ensures.fewer

pub returns-clause-others : goal.returns-clause-others
returns-clause-others c =
    let items = with_items_is c.args.self.now.inputs c.offer.new.inputs (c.offer.auto.inputs
    ∙ c.deref_mut.ensures.len) in
    rw (items, ← c.deref_mut.ensures.value) c.offer.ensures.others

pub offer-requires-clause-ready : goal.offer-requires-clause-ready
offer-requires-clause-ready c = λ d.
    let g = c.args.self.now in
    let f = g.frame in
    let p = g.plan.now in
    let over = g.over (dry_when g.flow.dry _ _ g.flow.full (sym c.requires.given)) in
    ∥∥₁_map g.supplied (λ (s : AreSupplied p g.frames g.inputs.items (early_of p f)).
    one_supplied c.early_fits_law.ensures.early c.deref_mut.result.now f.blocks p g.frames c.args.plp d
    (c.deref_mut.ensures.len ∙ g.whole) (omega (arith, c.requires.place, c.deref_mut.ensures.len))
    (has_frame p p f.blocks refl g.chunks g.lists)
    (record {
      events = s.events;
      frame_is = s.frame_is;
      fed = subst (λ (l : List Input). AllFed l (bits_in f.blocks) p s.events) (sym c.deref_mut.ensures.value)
          (early_over g.inputs.items p f.number f.step f.plp f.blocks p s.events over s.fed);
    }))

pub invariant_of-self-2 : goal.invariant_of-self-2
invariant_of-self-2 c =
    let g = c.args.self.now in
    let f = g.frame in
    let p = g.plan.now in
    let over = g.over (dry_when g.flow.dry _ _ g.flow.full (sym c.requires.given)) in
    let items = with_items_is g.inputs c.offer.new.inputs (c.offer.auto.inputs ∙ c.deref_mut.ensures.len) in
    record {
      whole = search rules;
      most = search rules;
      early = search rules;
      lists = search rules;
      chunks = search rules;
      over = search rules;
      fit = search rules;
      supplied = supplied_by g.supplied (λ events e fed.
          let told = events ++ Offered c.args.plp c.args.packet.now ∷ [] in (
            told,
            e ∙ sym (begun_same events (Offered c.args.plp c.args.packet.now) refl),
            over_early _ p f.number f.step f.plp c.offer.new.pool p told over
                (subst (λ (l : List Input). AllFed l (bits_in c.offer.new.pool) p told) (sym items)
                (c.offer.ensures.fed p events (c.deref_mut.ensures.len ∙ g.whole)
                (has_frame p p f.blocks refl g.chunks g.lists)
                (subst (λ (l : List Input). AllFed l (bits_in f.blocks) p events) (sym c.deref_mut.ensures.value)
                (early_over g.inputs.items p f.number f.step f.plp f.blocks p events over fed)))),
          ));
    }
