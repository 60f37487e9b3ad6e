use Rattle.std.proofs.Common.{◌∙◌, refl}
use Rattle.spaced_frames.specs.StandsFor.{content_of}
use Rattle.spaced_frames.specs.declared.stage.Stage.TheVariants as at
use Rattle.spaced_frames.proofs.SendLemmas.{given_on, given_over, sent_all, sends_is, going}
use Rattle.spaced_frames.proofs.sender.Sender.give_frame.Goals as goal

pub returns-then-not-full-clause-stands : goal.returns-then-not-full-clause-stands
returns-then-not-full-clause-stands c = λ frames gave h.
    let self = c.args.self.now in
    let g = c.give-len.ensures in
    given_over self.plan.now self _ (content_of c.args.frame.now) frames gave _ _ _ c.requires.sends
    refl refl refl g.number
    (g.gives.caught c.if-not-full.true).spent g.gives h

pub returns-then-not-full-clause-caught : goal.returns-then-not-full-clause-caught
returns-then-not-full-clause-caught c = λ _ frames gave h.
    let self = c.args.self.now in
    let g = c.give-len.ensures in
    sent_all self.plan.now self _ (content_of c.args.frame.now) frames gave _ _ _ c.requires.sends
    (going self.flow.finished self.stage self.«open» c.requires.sends) g.gives (g.gives.caught c.if-not-full.true) h

pub returns-else-not-full-clause-stands : goal.returns-else-not-full-clause-stands
returns-else-not-full-clause-stands c = λ frames gave h.
    let self = c.args.self.now in
    let g = c.give-len.ensures in
    given_on self.plan.now self _ (content_of c.args.frame.now) frames gave _ at.Sends _ c.requires.sends
    c.requires.sends
    (λ e. sends_is self c.requires.sends (c.requires.sends ∙ e)) refl refl refl g.number g.gives h
