use Rattle.std.proofs.Common.{◌≡◌, [], false, length, arith, rules, ap, ◌∙◌}
use Rattle.plp_config.specs.Plps.{plp_at}
use Rattle.plp_config.specs.declared.config.Config.{Config}
use Rattle.gateway_core.specs.IsFed.{IsFed, most}
use Rattle.gateway_core.proofs.InputsLemmas.{pushed}
use Rattle.gateway_core.proofs.inputs.open_inputs.Goals as goal

pub loop-plp-preserved : goal.loop-plp-preserved
loop-plp-preserved c = record {
  len = search rules;
  fed = rw c.in_ok-push.ensures.items
      (pushed (λ j i. IsFed i c.args.plan.now j (record { packets = []; ended = false; frame = 0 }) [])
      c.loop-plp.inputs.items
      c.loop-plp.plp _ c.loop-plp.invariant.len c.loop-plp.invariant.fed c.in_ok-open.ensures.fed);
  most = rw c.in_ok-push.ensures.items
      (pushed (λ j i. most i ≡ (plp_at c.args.plan.now.plps j).blocks) c.loop-plp.inputs.items c.loop-plp.plp _
      c.loop-plp.invariant.len c.loop-plp.invariant.most c.in_ok-open.ensures.most);
}

pub returns : goal.returns
returns c =
    let all : c.loop-plp.plp ≡ c.len-plp-end.result = omega arith in
    let whole : c.loop-plp.plp ≡ length c.args.plan.now.plps = all ∙ c.len-plp-end.ensures
    ∙ ap (λ (k : Config). length k.plps) c.config.ensures.value in
    record {
      len = c.loop-plp.invariant.len ∙ whole;
      fed = λ j d lt. c.loop-plp.invariant.fed j d (omega (arith, c.loop-plp.invariant.len));
      most = λ j d lt. c.loop-plp.invariant.most j d (omega (arith, c.loop-plp.invariant.len));
    }
