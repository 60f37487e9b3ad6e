use Rattle.std.proofs.Common.{◌∙◌, ◌<◌, sym, subst, arith, length}
use Rattle.std.proofs.lemmas.Option.{slice_get_within}
use Rattle.feed_events.specs.StandsFor.{head_of}
use Rattle.feed_events.specs.declared.feed.EventFeed.{EventFeed}
use Rattle.mended_frames.specs.Heads.{is_passed, PassesIf}
use Rattle.mended_frames.proofs.RowLemmas.{one_more, set_there, set_len, got}
use Rattle.mended_frames.proofs.heads.pass_all.Goals as goal

pub loop-feed-preserved : goal.loop-feed-preserved
loop-feed-preserved g c =
    let i = c.loop-feed.invariant in
    let n = c.loop-feed.feed-index in
    let now = c.loop-feed.feeds in
    let inside : n < length now = omega (arith, c.loop-feed-test.true, i.len) in
    record {
      len = set_len now n c.pass_one.new.feed ∙ i.len;
      done = one_more (λ (f h : EventFeed g.row.G.Denot g.G.OpenGroup). PassesIf
          (is_passed c.args.number c.args.silent (head_of f)) f h)
          c.args.feeds.now now n c.feed-item.result c.pass_one.new.feed i.done i.left inside
          (got now n c.feed-item.result inside c.feed-item.is)
          (subst (λ (f : EventFeed g.row.G.Denot g.G.OpenGroup). PassesIf (is_passed c.args.number c.args.silent
          (head_of f)) f
          c.pass_one.new.feed) (sym c.feed-item.is) c.pass_one.ensures);
      left = λ j l. set_there now n j c.pass_one.new.feed (λ e. omega (arith, e, l)) ∙ i.left j (omega (arith, l));
    }

pub returns : goal.returns
returns g c =
    let i = c.loop-feed.invariant in
    record {
      len = i.len;
      each = λ k f e. let w = slice_get_within c.args.feeds.now k f e in i.done k f
          (omega (arith, c.loop-feed-test.false, w)) e;
    }
