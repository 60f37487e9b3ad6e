use Rattle.std.proofs.Common.{[], refl}
use Rattle.frame_writer.proofs.FlowLemmas.{finished_when}
use Rattle.frame_writer.proofs.flow.Flow.rest.Goals as goal

pub returns-clause-unit : goal.returns-clause-unit
returns-clause-unit c = λ on config n all given h more none.
    c.next.ensures.unit on config n [] all given h more
    (λ fin. record {
      rest_is = c.args.self.now.fed c.requires.dry;
      left_is = refl;
      more_is = none (finished_when c.args.self.now.finished _ c.args.self.now.«open» fin);
    })

pub returns-clause-none : goal.returns-clause-none
returns-clause-none c = λ off end config n all given h.
    c.next.ensures.none off (c.args.self.now.drained end c.requires.dry) config n [] all given h
    (record { rest_is = c.args.self.now.fed c.requires.dry; left_is = refl; more_is = refl })

pub returns-clause-less : goal.returns-clause-less
returns-clause-less c = λ on. c.next.ensures.less on []
