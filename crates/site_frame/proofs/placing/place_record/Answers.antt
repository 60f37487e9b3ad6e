use Rattle.site_frame.proofs.PlaceLemmas.{every_placed, every_refused}
use Rattle.site_frame.proofs.placing.place_record.Goals as goal

pub returns-clause-every : goal.returns-clause-every
returns-clause-every c =
    every_placed c.emission_law.ensures.differ c.args.plan.now c.args.expected c.args.moment.now c.place.result
    c.rules_law.ensures.plan.rules c.place.ensures.ok c.place.ensures.err

pub returns-clause-refused : goal.returns-clause-refused
returns-clause-refused c =
    every_refused c.emission_law.ensures.differ c.args.plan.now c.args.expected c.args.moment.now c.place.result
    c.rules_law.ensures.plan.rules c.place.ensures.ok c.place.ensures.err
