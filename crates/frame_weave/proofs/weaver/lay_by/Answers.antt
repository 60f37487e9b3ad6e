use Rattle.std.proofs.Common.{is_some, ap, subst, ◌∙◌, length}
use Rattle.std.specs.Option.{unwrap_or}
use Rattle.std.proofs.lemmas.Bool.{false≢true}
use Rattle.plp_config.specs.declared.config.Config.{Config}
use Rattle.scheduler.specs.Shape.{FrameShape, blank}
use Rattle.frame_groups.specs.Readable.{coming}
use Rattle.frame_groups.specs.Tests.{first_shape}
use Rattle.frame_weave.specs.Slots.{IsLaid}
use Rattle.frame_weave.proofs.SignalLemmas.{has_shape}
use Rattle.frame_weave.proofs.weaver.lay_by.Goals as goal

pub returns-in_default-clause-laid : goal.returns-in_default-clause-laid
returns-in_default-clause-laid c = λ past h held signal.
    let is = c.in_default.ensures.value past h c.requires.intact held
    ∙ ap (λ (k : Config). first_shape k h.packets) c.requires.network in
    absurd (false≢true (ap is_some is ∙ has_shape c.args.plan.now c.args.number h.packets signal))

pub returns-clause-laid : goal.returns-clause-laid
returns-clause-laid c = λ past h held signal.
    let plan = c.args.plan.now in
    let is = c.in-Some.ensures.value past h c.requires.intact held
    ∙ ap (λ (k : Config). first_shape k h.packets) c.requires.network in
    subst (λ (s : FrameShape). IsLaid plan (coming plan c.args.number s) c.lay.new.self)
    (ap (λ o. unwrap_or o (blank (length plan.plps))) is) c.lay.ensures.laid
