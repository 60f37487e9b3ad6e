use Rattle.std.proofs.Common.{◌∙◌, ◌≡◌, true, false, ap, sym}
use Rattle.std.proofs.lemmas.Option.{same_Some}
use Rattle.open_group.specs.FrameBytes.{is_frame}
use Rattle.feed_events.specs.StandsFor.{head_of}
use Rattle.mended_frames.proofs.RowLemmas.{got}
use Rattle.mended_frames.specs.StandsFor.{Feed, is_at, pooled_of}
use Rattle.mended_frames.proofs.ChooseLemmas.{left_more, chosen, none_left, tells_by}
use Rattle.mended_frames.proofs.groups.whole_feed.Goals as goal

pub returns-then-is_whole-clause-some : goal.returns-then-is_whole-clause-some
returns-then-is_whole-clause-some c = λ gs before have past above.
    let feeds = c.args.feeds.now in
    let i = c.loop-i.i in
    let f : Feed = c.index-feeds-i.result in
    let e = got feeds i f c.loop-i-test.true c.index-feeds-i.is in
    let w = c.is_whole.ensures in
    chosen c.args.plan.now before c.args.number feeds gs i f e
    (tells_by c.args.plan.now before c.args.number f c.args.past.now true (c.requires.of i f e)
    (λ own h holds p a. sym c.if-is_whole.true ∙ w.value own before h holds p a) past above)
    (w.there c.if-is_whole.true) (c.loop-i.invariant gs before have past above)

pub returns-then-is_whole-clause-frame : goal.returns-then-is_whole-clause-frame
returns-then-is_whole-clause-frame c = λ f at.
    let g : Feed = c.index-feeds-i.result in
    let e = got c.args.feeds.now c.loop-i.i g c.loop-i-test.true c.index-feeds-i.is in
    let same : f ≡ g = same_Some f g (sym at ∙ e) in
    ap (λ (x : Feed). is_frame (pooled_of x)) same ∙ c.is_whole.ensures.frame c.if-is_whole.true

pub returns-then-is_whole-clause-next : goal.returns-then-is_whole-clause-next
returns-then-is_whole-clause-next c = λ f at.
    let g : Feed = c.index-feeds-i.result in
    let e = got c.args.feeds.now c.loop-i.i g c.loop-i-test.true c.index-feeds-i.is in
    let same : f ≡ g = same_Some f g (sym at ∙ e) in
    ap (λ (x : Feed). is_at c.args.number (head_of x)) same ∙ c.is_whole.ensures.there c.if-is_whole.true

pub loop-i-preserved : goal.loop-i-preserved
loop-i-preserved c = λ gs before have past above.
    let feeds = c.args.feeds.now in
    let i = c.loop-i.i in
    let f : Feed = c.index-feeds-i.result in
    let e = got feeds i f c.loop-i-test.true c.index-feeds-i.is in
    left_more c.args.plan.now before c.args.number feeds gs i f e
    (tells_by c.args.plan.now before c.args.number f c.args.past.now false (c.requires.of i f e)
    (λ own h holds p a. sym c.if-is_whole.false ∙ c.is_whole.ensures.value own before h holds p a) past above)
    (c.loop-i.invariant gs before have past above)

pub returns-clause-none : goal.returns-clause-none
returns-clause-none c = λ gs before have past above.
    none_left c.args.plan.now before c.args.number c.args.feeds.now gs c.loop-i.i c.loop-i-test.false
    (c.loop-i.invariant gs before have past above)
