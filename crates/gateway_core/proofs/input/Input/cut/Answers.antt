use Rattle.std.proofs.Common.{◌∙◌}
use Rattle.gateway_core.proofs.FedLemmas.{fed_cut, next_due, place_stays, others_on, served}
use Rattle.gateway_core.proofs.input.Input.cut.Goals as goal

pub returns-clause-cut : goal.returns-clause-cut
returns-clause-cut c = λ config plp t plan lt place on e h.
    let filled = c.complete.ensures.fed config plp t place h in
    let still = place_stays config plp c.args.pool.now c.complete.new.pool c.args.list c.complete.ensures.others
    place in
    fed_cut c.complete.new.pool c.end_frame-count.new.pool c.args.list still filled c.blocks_law.ensures
    c.slot_time_law.ensures.count_rises c.length_law.ensures.slot c.spread_law.ensures.frames _ _
    c.end_frame-count.ensures.ends plan lt on c.complete.ensures.full
    (c.max-self.ensures ∙ next_due c.slot_time_law.ensures.count_rises c.length_law.ensures.slot config
    plp t.frame _ _ plan.rules
    lt filled.due_is e ∙ e)

pub returns-clause-others : goal.returns-clause-others
returns-clause-others c =
    others_on c.args.pool.now c.complete.new.pool c.end_frame-count.new.pool c.args.list c.complete.ensures.others
    c.end_frame-count.ensures.others

pub end_frame-count-requires-clause-ready : goal.end_frame-count-requires-clause-ready
end_frame-count-requires-clause-ready c = served c.complete.new.self c.complete.new.pool c.args.list
    c.complete.ensures.ready

pub returns-clause-short : goal.returns-clause-short
returns-clause-short c = λ short. c.end_frame-count.ensures.short (c.complete.ensures.short short)
