use Rattle.std.proofs.Common.{◌≡◌, ◌∙◌, Some, [], ap, sym, subst, refl}
use Rattle.std.specs.Prelude.{option_map}
use Rattle.std.proofs.lemmas.Option.{same_Some}
use Rattle.plp_config.specs.declared.config.Config.{Config}
use Rattle.frame_weave.specs.declared.weaver.Weaver.{Weaver}
use Rattle.open_group.specs.FrameBytes.{is_frame}
use Rattle.open_group.specs.Holds.{Holds}
use Rattle.mended_frames.proofs.RowLemmas.{got}
use Rattle.mended_frames.specs.Mended.{made_of, woven_of}
use Rattle.mended_frames.specs.StandsFor.{Feed, pooled_of, picked_as}
use Rattle.mended_frames.proofs.MakeLemmas.{made_own, made_woven, with_some}
use Rattle.mended_frames.proofs.mender.Mender.make.Goals as goal

pub returns-in-Some-clause-some : goal.returns-in-Some-clause-some
returns-in-Some-clause-some c = λ gs past m above have.
    let feeds = c.args.feeds.now in
    let n = c.args.number in
    let i = c.in-Some.feed in
    let f : Feed = c.index-feeds-feed.result in
    let e = got feeds i f c.in-Some.ensures.inside c.index-feeds-feed.is in
    let chosen = c.in-Some.ensures.some gs past have m.holds above in
    let same : chosen.feed ≡ f = same_Some chosen.feed f (sym chosen.is ∙ e) in
    let holds = subst (λ (x : Feed). Holds (pooled_of x) chosen.own (Some chosen.group)) same chosen.holds in
    record {
      group = chosen.group;
      made = ap (λ (k : Config). made_of k past (picked_as n gs)) c.note_feed.ensures.plan
          ∙ made_own c.args.self.now.plan.now past n gs chosen.group chosen.first;
      stands = c.note_feed.ensures.stands past chosen.own chosen.group m holds above;
      lent = pooled_of f;
      is = ap (option_map pooled_of) e;
      own = chosen.own;
      holds = holds;
    }

pub returns-clause-some : goal.returns-clause-some
returns-clause-some c = λ gs past m above have.
    let n = c.args.number in
    let k = c.args.self.now.plan.now in
    let w = c.weave_frame.ensures in
    let is-new = c.note_woven.ensures.same in
    with_some (woven_of k past (picked_as n gs)) (sym (w.told gs past m above have) ∙ c.if-not-weave_frame.false)
    (λ g is.
    let held = w.group gs past g m above have is in
    record {
      group = g;
      made = ap (λ (x : Config). made_of x past (picked_as n gs)) (is-new.0 ∙ w.plan)
          ∙ made_woven k past n gs (Some g) (c.in_default.ensures.none gs past have m.holds above) is;
      stands = c.note_woven.ensures.stands past g (w.stands past m) held above;
      lent = c.note_woven.new.self.weaver.made.group;
      is = refl;
      own = [];
      holds = subst (λ (x : Weaver). Holds x.made.group [] (Some g)) (sym is-new.1) held;
    })

pub returns-in-Some-clause-lends : goal.returns-in-Some-clause-lends
returns-in-Some-clause-lends c = record {
  inside = c.in-Some.ensures.inside;
  network = λ f at. c.requires.of c.in-Some.feed f at ∙ sym c.note_feed.ensures.plan;
  frame = c.in-Some.ensures.frame;
}

pub returns-clause-lends : goal.returns-clause-lends
returns-clause-lends c =
    ap (λ (x : Weaver). is_frame x.made.group) c.note_woven.ensures.same.1
    ∙ c.weave_frame.ensures.frame c.if-not-weave_frame.false
