use Rattle.std.proofs.Common.{refl}
use Rattle.spaced_frames.specs.StandsFor.{content_of}
use Rattle.spaced_frames.specs.declared.stage.Stage.TheVariants as at
use Rattle.spaced_frames.proofs.SendLemmas.{given_on, spacer_over, spaces_or_idle}
use Rattle.spaced_frames.proofs.sender.Sender.give_spacer.Goals as goal

pub returns-then-not-full-clause-stands : goal.returns-then-not-full-clause-stands
returns-then-not-full-clause-stands c = λ frames gave h.
    let self = c.args.self.now in
    let g = c.give-len.ensures in
    spacer_over self.plan.now self c.go_on.new.self _ (content_of c.args.frame.now) frames gave _ _ _ c.requires.spaces
    c.go_on.ensures.stage c.go_on.ensures.config c.go_on.ensures.number (g.gives.caught c.if-not-full.true).spent
    g.gives
    c.go_on.ensures.goes h

pub returns-else-not-full-clause-stands : goal.returns-else-not-full-clause-stands
returns-else-not-full-clause-stands c = λ frames gave h.
    let self = c.args.self.now in
    let g = c.give-len.ensures in
    given_on self.plan.now self _ (content_of c.args.frame.now) frames gave _ at.Spaces _ c.requires.spaces
    c.requires.spaces
    spaces_or_idle refl refl refl g.number g.gives h
