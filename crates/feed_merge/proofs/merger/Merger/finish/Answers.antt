use Rattle.std.proofs.Common.{[]}
use Rattle.feed_merge.specs.StandsFor.{MergerStandsFor}
use Rattle.feed_merge.proofs.merger.Merger.finish.Goals as goal

pub returns-clause-stands : goal.returns-clause-stands
unfolding MergerStandsFor
returns-clause-stands c = λ left all given h.
    c.finish.ensures.flows c.args.self.now.plan.now c.args.self.now.place.number left all given h

pub returns-clause-left : goal.returns-clause-left
returns-clause-left c = c.finish.ensures.same []
