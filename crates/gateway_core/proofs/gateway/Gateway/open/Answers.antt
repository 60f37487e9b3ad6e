use Rattle.std.proofs.Common.{◌≡◌, List, [], refl, ap, sym, subst}
use Rattle.std.proofs.lemmas.Grind.{merely}
use Rattle.t2mi_packet.specs.declared.packet.Body.{Body}
use Rattle.frame_writer.specs.Flowing.{Flows, bytes_bound}
use Rattle.gateway_core.specs.Left.{Layout, left, early_of}
use Rattle.gateway_core.specs.StandsFor.{GatewayStandsFor}
use Rattle.gateway_core.proofs.LeftLemmas.{over_left}
use Rattle.gateway_core.proofs.HoldsLemmas.{fed_kept, stay_none, fit_zeros}
use Rattle.gateway_core.proofs.gateway.Gateway.open.Goals as goal

pub returns-clause-stands : goal.returns-clause-stands
unfolding GatewayStandsFor
returns-clause-stands c =
    let f = c.in_ok-open-2.field-0 in
    let nothing = over_left c.args.plan.now c.in_ok-open.field-0 f c.in_ok-open-2.ensures.over in (
      refl,
      record {
        fed = fed_kept _ (λ j. []) (early_of c.args.plan.now f) c.args.plan.now [] c.in_ok-open-2.ensures.early
            c.in_ok-open_inputs.ensures.fed;
        pre = c.in_ok-open.ensures.pre;
        conf = c.in_ok-open.ensures.conf;
        frames_are = refl;
        last = c.new.ensures.finished;
        flows = λ all more. subst (λ (l : List Body). Flows c.new.result.outlet c.args.plan.now f.number l [] 0)
            (sym nothing)
            (c.new.ensures.flows c.args.plan.now f.number (sym c.pid_of.ensures.value));
      },
      stay_none c.args.plan.now f.counts.items,
    )

pub returns-clause-status : goal.returns-clause-status
returns-clause-status c =
    let p = c.args.plan.now in
    let f = c.in_ok-open-2.field-0 in
    let nothing = over_left p c.in_ok-open.field-0 f c.in_ok-open-2.ensures.over in
    let none : bytes_bound c.new.result.outlet (left p c.in_ok-open.field-0 f) ≡ 0 = rw nothing c.new.ensures.none in
    λ i. record {
      plps = c.in_ok-open_inputs.ensures.len i;
      frame = 0;
      unit = c.new.ensures.unit i;
      finished = c.new.ensures.finished i;
      left = none i;
    }

pub invariant_of-result-clause-fit : goal.invariant_of-result-clause-fit
invariant_of-result-clause-fit c =
    fit_zeros c.args.plan.now _ (ap (λ (l : Layout). l.counts) c.in_ok-open-2.ensures.layout)

pub invariant_of-result-clause-supplied : goal.invariant_of-result-clause-supplied
invariant_of-result-clause-supplied c = merely (record {
  events = [];
  frame_is = refl;
  fed = fed_kept _ (λ j. []) (early_of c.args.plan.now c.in_ok-open-2.field-0) c.args.plan.now []
      c.in_ok-open-2.ensures.early c.in_ok-open_inputs.ensures.fed;
})
