use Rattle.std.proofs.Common.{◌∙◌, refl}
use Rattle.spaced_frames.proofs.SendLemmas.{rest_stands, rest_kept, rest_all}
use Rattle.spaced_frames.proofs.sender.Sender.rest.Goals as goal

pub returns-clause-stands : goal.returns-clause-stands
returns-clause-stands c = λ some x frames gave h.
    let self = c.args.self.now in
    let r = c.rest.ensures in
    rest_stands self.plan.now self _ x frames gave c.rest.new.out c.requires.idle c.requires.idle refl
    refl refl c.requires.finished
    (r.finished ∙ c.requires.finished) (r.unit some) (r.flows some) h

pub returns-clause-all : goal.returns-clause-all
returns-clause-all c = λ over x frames gave h.
    let self = c.args.self.now in
    rest_all self.plan.now self x frames gave c.requires.idle (c.rest.ensures.none over c.requires.finished) h

pub returns-clause-kept : goal.returns-clause-kept
returns-clause-kept c = λ none x frames gave h.
    let self = c.args.self.now in
    rest_kept self.plan.now self _ x frames gave c.requires.idle c.requires.idle refl refl refl
    (c.rest.ensures.stays none).0 h
