use Rattle.std.proofs.Common.{◌∙◌}
use Rattle.spaced_frames.proofs.SendLemmas.{sends_begun_as}
use Rattle.spaced_frames.proofs.sender.Sender.begin_frame.Goals as goal

pub returns-clause-begun : goal.returns-clause-begun
returns-clause-begun c = λ n all gave s.
    let self = c.args.self.now in
    sends_begun_as self.plan.now self.flow c.begin.new.self n _ c.args.number _ _ _ _ all gave c.requires.«open»
    c.begin.ensures.finished c.first-place.ensures.number (c.first-place.ensures.left c.args.frame.now)
    (c.begin.ensures.number ∙ c.first-place.ensures.number) c.begin.ensures.feeds s
