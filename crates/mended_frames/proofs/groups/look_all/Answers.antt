use Rattle.std.proofs.Common.{◌∙◌, List, [], sym, subst}
use Rattle.terms.proofs.CaseLemmas.{bool_cases}
use Rattle.frame_groups.specs.Groups.{Group}
use Rattle.mended_frames.proofs.RowLemmas.{got}
use Rattle.feed_events.specs.StandsFor.{head_of}
use Rattle.frame_weave.specs.Weaves.{Weaves}
use Rattle.frame_weave.specs.declared.weaver.Weaver.{Weaver}
use Rattle.mended_frames.specs.StandsFor.{Feed, is_at}
use Rattle.mended_frames.proofs.ChooseLemmas.{split_past, split_with, split_last}
use Rattle.mended_frames.proofs.groups.look_all.Goals as goal

pub loop-i-preserved : goal.loop-i-preserved
loop-i-preserved c =
    let feeds = c.args.feeds.now in
    let i = c.loop-i.i in
    let f : Feed = c.index-feeds-i.result in
    let e = got feeds i f c.loop-i-test.true c.index-feeds-i.is in
    let inv = c.loop-i.invariant in
    record {
      split = λ gs have begun.
          let s = inv.split gs have begun in
          bool_cases (is_at c.args.number (head_of f))
          (λ on. split_with c.args.number feeds gs (λ (seen : List Group). Weaves c.loop-i.weaver c.args.number seen [])
          (λ (seen : List Group). Weaves c.look_one.new.weaver c.args.number seen []) i f e on
          (λ own h seen holds w. c.look_one.ensures.takes on own h seen holds w) s)
          (λ off. split_past c.args.number feeds gs (λ (seen : List Group). Weaves c.loop-i.weaver c.args.number
          seen []) (λ (seen : List Group). Weaves c.look_one.new.weaver c.args.number seen []) i f e off
          (λ seen w. subst (λ (x : Weaver). Weaves x c.args.number seen []) (sym (c.look_one.ensures.stays off)) w) s);
      own = λ o. c.look_one.ensures.own (inv.own o);
      plan = c.look_one.ensures.plan ∙ inv.plan;
    }

pub returns-clause-weaves : goal.returns-clause-weaves
returns-clause-weaves c = λ gs have begun.
    split_last c.args.number c.args.feeds.now gs _ c.loop-i.i c.loop-i-test.false
    (c.loop-i.invariant.split gs have begun)
