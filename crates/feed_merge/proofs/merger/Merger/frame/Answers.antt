use Rattle.feed_merge.specs.StandsFor.{MergerStandsFor}
use Rattle.feed_merge.proofs.MergerLemmas.{begun}
use Rattle.feed_merge.proofs.merger.Merger.frame.Goals as goal

pub returns-clause-stands : goal.returns-clause-stands
unfolding MergerStandsFor
returns-clause-stands c = λ all given h.
    let self = c.args.self.now in
    begun self.flow.outlet c.begin.new.self.outlet self.plan.now self.place.number c.args.number
    c.first-place.result.number _ _ _
    all given h c.first-place.ensures.number (c.first-place.ensures.left c.args.frame.now) c.begin.ensures.feeds.flows _
    c.begin.ensures.number
