use Rattle.std.proofs.Common.{ap, ◌∙◌}
use Rattle.plp_config.specs.declared.config.Config.{Config}
use Rattle.common_plp.specs.Inputs.{commons}
use Rattle.gateway_core.specs.StandsFor.{Status}
use Rattle.gateway_run.proofs.JointLemmas.{never_before, asks_none, asks_one}
use Rattle.gateway_run.proofs.joint.SplitGatewayFrameGateway.look.Goals as goal

pub overflow_sub-result : goal.overflow_sub-result
overflow_sub-result c =
    never_before c.next.new.self c.args.plan.now c.in-Some.plp c.commons.result (c.next.ensures.config
    ∙ c.requires.is_of)
    (c.commons.ensures ∙ ap (λ (k : Config). commons k.plps) c.config.ensures.value) c.in-Some.ensures.asks

pub returns-in-Some-clause-asks : goal.returns-in-Some-clause-asks
returns-in-Some-clause-asks c =
    asks_one c.next.new.self c.args.plan.now c.rules_law.ensures.plan.rules (c.next.ensures.config ∙ c.requires.is_of)
    (ap (λ (t : Status). t.finished) c.next.ensures.status ∙ c.requires.idle.is_open) c.in-Some.plp c.commons.result
    (c.commons.ensures ∙ ap (λ (k : Config). commons k.plps) c.config.ensures.value) c.in-Some.ensures.asks
    (c.in-Some.ensures.first c.args.plan.now)

pub returns-in-None-clause-asks : goal.returns-in-None-clause-asks
returns-in-None-clause-asks c =
    asks_none c.next.new.self c.args.plan.now c.rules_law.ensures.plan.rules (c.next.ensures.config ∙ c.requires.is_of)
    (ap (λ (t : Status). t.finished) c.next.ensures.status ∙ c.requires.idle.is_open) c.in-None.ensures.asks
    (c.in-None.ensures.first c.args.plan.now)
