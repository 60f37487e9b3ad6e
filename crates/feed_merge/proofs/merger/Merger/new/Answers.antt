use Rattle.std.proofs.Common.{sym}
use Rattle.feed_merge.specs.StandsFor.{MergerStandsFor}
use Rattle.feed_merge.proofs.merger.Merger.new.Goals as goal

pub returns-clause-stands : goal.returns-clause-stands
unfolding MergerStandsFor
returns-clause-stands c = c.new.ensures.flows c.args.plan.now c.over.result.number (sym c.pid_of.ensures.value)
