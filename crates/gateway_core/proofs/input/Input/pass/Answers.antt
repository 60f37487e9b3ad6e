use Rattle.std.proofs.Common.{◌∙◌}
use Rattle.gateway_core.proofs.FedLemmas.{fed_pass, next_due}
use Rattle.gateway_core.proofs.input.Input.pass.Goals as goal

pub returns-clause-fed : goal.returns-clause-fed
returns-clause-fed c = λ config plp t early plan lt off e h.
    fed_pass h c.slot_time_law.ensures.count_rises c.length_law.ensures.slot c.spread_law.ensures.frames _ plan lt off
    (c.max-self.ensures ∙ next_due c.slot_time_law.ensures.count_rises c.length_law.ensures.slot config
    plp t.frame _ _ plan.rules
    lt h.due_is e ∙ e)
