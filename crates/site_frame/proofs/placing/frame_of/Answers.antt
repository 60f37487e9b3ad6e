use Rattle.site_frame.proofs.PlaceLemmas.{found_some, found_none}
use Rattle.site_frame.proofs.placing.frame_of.Goals as goal

pub returns-clause-some : goal.returns-clause-some
returns-clause-some c =
    found_some c.emission_law.ensures.found c.args.plan.now c.args.moment.now c.frame_at.result
    c.rules_law.ensures.plan.rules
    c.frame_at.ensures.some

pub returns-clause-none : goal.returns-clause-none
returns-clause-none c =
    found_none c.emission_law.ensures.found c.args.plan.now c.args.moment.now c.frame_at.result
    c.rules_law.ensures.plan.rules
    c.frame_at.ensures.none
