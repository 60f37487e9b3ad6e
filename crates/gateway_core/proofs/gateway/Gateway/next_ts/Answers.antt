use Rattle.std.proofs.Common.{◌≡◌, ◌∙◌, ◌+◌, ◌++◌, ◌∷◌, ◌<◌, ℕ, List, [], false, length, refl, ap, sym, subst}
use Rattle.std.proofs.Common.{append-nil}
use Rattle.std.proofs.lemmas.Option.{slice_get_within}
use Rattle.t2mi_stream.specs.Pipe.{pipe}
use Rattle.gateway_core.specs.Events.{Gave, begun, given}
use Rattle.gateway_core.specs.Packets.{front_packets}
use Rattle.plp_config.specs.declared.config.Config.{Config}
use Rattle.scheduler.specs.Laws.{CountsFit}
use Rattle.t2mi_packet.specs.declared.packet.Body.{Body}
use Rattle.frame_writer.specs.Flowing.{Flows, bytes_bound, gives_unit}
use Rattle.gateway_core.specs.InputsStandFor.{CountsStay}
use Rattle.gateway_core.specs.Left.{Stays, left, early_of}
use Rattle.gateway_core.specs.StandsFor.{GatewayStandsFor, Holds}
use Rattle.frame_writer.specs.declared.flow.Flow.{Flow}
use Rattle.gateway_core.specs.declared.frame.Frame.{Frame}
use Rattle.gateway_core.proofs.LeftLemmas.{over_left}
use Rattle.gateway_core.proofs.HoldsLemmas.{holds_with, fed_same, own_flows, both}
use Rattle.gateway_core.proofs.HoldsLemmas.{supplied_by, fed_kept}
use Rattle.gateway_core.proofs.InputsLemmas.{or_false, back, nothing_told}
use Rattle.gateway_core.proofs.gateway.Gateway.next_ts.Goals as goal

pub returns-clause-unit : goal.returns-clause-unit
unfolding GatewayStandsFor front_packets
returns-clause-unit c = λ on config events h inputs cont more none.
    rw (← h.0) (c.next.ensures.unit on _ _ (own_flows c.args.self.now config events inputs h cont) more
    (λ fin. none (sym h.1.last ∙ fin)))

pub returns-clause-none : goal.returns-clause-none
unfolding GatewayStandsFor front_packets
returns-clause-none c = λ off config events h fin inputs cont.
    rw (← h.0) (c.next.ensures.none off (h.1.last ∙ fin) _ _ (own_flows c.args.self.now config events inputs h cont))

pub returns-clause-stands : goal.returns-clause-stands
unfolding GatewayStandsFor
returns-clause-stands c = λ on config events h. (
  h.0,
  holds_with Gave h.1 refl (c.next.ensures.finished ∙ sym (or_false c.args.self.now.flow.finished))
      (fed_same _ _ _ config events Gave (λ j. nothing_told j events Gave refl refl refl)
      (λ j. ap (λ (s : Stays). s.early j) c.next.ensures.kept) h.1.fed) (λ j on. refl)
      (subst (λ (k : Config). (all : List (ℕ × Body)) (given : ℕ)
      → Flows c.args.self.now.flow.outlet k c.args.self.now.frame.number
      (left c.args.self.now.plan.now c.args.self.now.signalling c.args.self.now.frame) all given
      → Flows c.next.new.self.outlet k c.next.new.source.number
      (left c.args.self.now.plan.now c.args.self.now.signalling c.next.new.source) all (given + 1)) h.0
      (c.next.ensures.flows on)),
  subst (λ (l : List ℕ). CountsStay config (events ++ Gave ∷ []) c.args.self.now.frames l)
      (sym (ap (λ (s : Stays). s.layout.counts) c.next.ensures.kept)) (λ all more. h.2 all
      (back config events Gave all (λ j on. refl) more)),
)

pub returns-clause-still : goal.returns-clause-still
unfolding GatewayStandsFor
returns-clause-still c = λ off config events h.
    let g = c.args.self.now in
    let same = c.next.ensures.stays off in (
      h.0,
      subst (λ (f : Flow). Holds g.inputs.items (early_of g.plan.now c.next.new.source) g.signalling g.frames f
          c.next.new.source.number (left g.plan.now g.signalling c.next.new.source) config events) (sym same.0)
          (subst (λ (r : Frame). Holds g.inputs.items (early_of g.plan.now r) g.signalling g.frames g.flow r.number
          (left g.plan.now g.signalling r) config events) (sym same.1) h.1),
      subst (λ (r : Frame). CountsStay config events g.frames r.counts.items) (sym same.1) h.2,
    )

pub returns-clause-stays : goal.returns-clause-stays
returns-clause-stays c = λ off.
    let same = c.next.ensures.stays off in
    let none : gives_unit c.args.self.now.flow.outlet ≡ false = sym c.next.ensures.is ∙ off in
    (subst (λ (f : Flow). gives_unit f.outlet ≡ false) (sym same.0) none, same.2)

pub returns-clause-caught_up : goal.returns-clause-caught_up
unfolding GatewayStandsFor front_packets
returns-clause-caught_up c = λ none config events h off inputs cont.
    rw (← h.0) (c.next.ensures.caught_up none (h.1.last ∙ off) _ _
    (own_flows c.args.self.now config events inputs h cont))

pub returns-clause-complete : goal.returns-clause-complete
unfolding GatewayStandsFor front_packets
returns-clause-complete c = λ config events h off inputs cont.
    both _ _ _
    (λ on. rw (← h.0) (c.next.ensures.complete on (h.1.last ∙ off) _ _
    (own_flows c.args.self.now config events inputs h cont)))
    (λ none. returns-clause-caught_up c none config events h off inputs cont)

pub returns-clause-rest : goal.returns-clause-rest
returns-clause-rest c = λ config events h fin inputs cont.
    let front = front_packets config inputs (begun events) in
    both _ _ _
    (λ on. subst (λ (l : List (List ℕ)). given events < length (pipe config.pid l)) (append-nil front)
    (slice_get_within (pipe config.pid (front ++ [])) (given events) _
    (returns-clause-unit c on config events h inputs cont [] (λ _. refl))))
    (λ off. sym (returns-clause-none c off config events h fin inputs cont))

pub returns-clause-kept : goal.returns-clause-kept
returns-clause-kept c = λ off.
    let g = c.args.self.now in
    let same = c.next.ensures.stays off in
    ap (λ (f : Flow). bytes_bound f.outlet (left g.plan.now g.signalling c.next.new.source)) same.0
    ∙ ap (λ (r : Frame). bytes_bound g.flow.outlet (left g.plan.now g.signalling r)) same.1

pub invariant_of-self-clause-fit : goal.invariant_of-self-clause-fit
invariant_of-self-clause-fit c =
    let g = c.args.self.now in
    subst (λ (l : List ℕ). CountsFit g.plan.now l)
    (sym (ap (λ (s : Stays). s.layout.counts) c.next.ensures.kept)) g.fit

pub invariant_of-self-clause-supplied : goal.invariant_of-self-clause-supplied
invariant_of-self-clause-supplied c =
    let g = c.args.self.now in
    supplied_by g.supplied (λ events e fed. (
      events,
      e,
      fed_kept g.inputs.items (early_of g.plan.now g.frame) (early_of g.plan.now c.next.new.source) g.plan.now events
          (λ j. ap (λ (s : Stays). s.early j) c.next.ensures.kept) fed,
    ))

pub next-requires-clause-over : goal.next-requires-clause-over
next-requires-clause-over c = λ dry.
    let g = c.args.self.now in
    over_left g.plan.now g.signalling g.frame (g.over dry)
