use Rattle.std.proofs.Common.{◌∙◌, ap, sym, subst}
use Rattle.plp_config.specs.declared.config.Config.{Config}
use Rattle.frame_weave.specs.Woven.{woven}
use Rattle.open_group.specs.HoldsPast.{HoldsPast}
use Rattle.open_group.specs.declared.past.HeldPast.{HeldPast}
use Rattle.mended_frames.specs.Mended.{passes}
use Rattle.mended_frames.proofs.MakeLemmas.{one_is, one_told}
use Rattle.mended_frames.proofs.mender.Mender.weave_frame.Goals as goal

pub returns-then-not-weave-clause-group : goal.returns-then-not-weave-clause-group
returns-then-not-weave-clause-group c = λ gs past g m above have is.
    let one = one_is (passes c.args.self.now.plan.now past c.args.number) (woven c.args.self.now.plan.now
    c.args.number gs) g is in
    c.weave.ensures.group gs g m.own have one

pub returns-clause-group : goal.returns-clause-group
returns-clause-group c = λ gs past g m above have is.
    let one = one_is (passes c.args.self.now.plan.now past c.args.number) (woven c.args.self.now.plan.now
    c.args.number gs) g is in
    c.weave.ensures.group gs g m.own have one

pub returns-clause-told : goal.returns-clause-told
returns-clause-told c = λ gs past m above have.
    let plan = c.weave.ensures.same.0 in
    let same = subst (λ (h : HeldPast). HoldsPast c.args.self.now.plan.now h past) (sym c.weave.ensures.same.1)
    m.holds in
    let held = subst (λ (k : Config). HoldsPast k c.weave.new.self.past past) (sym plan) same in
    one_told (passes c.args.self.now.plan.now past c.args.number) (woven c.args.self.now.plan.now c.args.number gs)
    c.is_frame.result
    (sym (c.weave.ensures.told gs m.own have) ∙ c.if-not-weave.false)
    (λ g is. c.is_frame.ensures.value past g (c.weave.ensures.group gs g m.own have is) held above
    ∙ ap (λ (k : Config). passes k past c.args.number g) plan)
