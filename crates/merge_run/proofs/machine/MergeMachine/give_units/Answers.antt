use Rattle.std.proofs.Common.{ℕ, ◌+◌, [], ◌∷◌, ◌++◌, take, ap, sym, subst, ◌∙◌, arith}
use Rattle.std.proofs.Math.Logic.{∥∥₁_map}
use Rattle.file_run.specs.Events.{Gave}
use Rattle.feed_merge.specs.Frames.{IsFrameOf}
use Rattle.feed_merge.specs.FeedStandsFor.{waiting_of, is_whole}
use Rattle.feed_merge.specs.FeedStandsFor as feed
use Rattle.feed_merge.specs.declared.feed.FrameFeed.{FrameFeed}
use Rattle.merge_run.specs.Shown.{Shown, HasShown}
use Rattle.merge_run.specs.declared.phase.Phase.TheVariants.{Reads}
use Rattle.merge_run.specs.declared.stop.MergeRan.{MergeRan}
use Rattle.feed_merge.specs.declared.seen.Feed.TheVariants.{A, B}
use Rattle.feed_merge.proofs.BothCameLemmas.{test_of, less_of}
use Rattle.merge_run.proofs.GiveLemmas.{can_leave, same_network, few_more, shown_units, shown_behind, counted_units}
use Rattle.merge_run.proofs.ShownLemmas.{giving}
use Rattle.merge_run.proofs.machine.MergeMachine.give_units.Goals as goal

pub give_frame-len-requires-clause-whole : goal.give_frame-len-requires-clause-whole
give_frame-len-requires-clause-whole c =
    let m = c.args.self.now in
    rw c.source_of-feed.ensures (test_of _ _ c.requires.came
    (λ (h : HasShown m). (giving h.network m h.events h.shown c.requires.gives).whole))

pub give_frame-len-requires-clause-network : goal.give_frame-len-requires-clause-network
give_frame-len-requires-clause-network c =
    let m = c.args.self.now in
    ∥∥₁_map c.requires.came (λ (h : HasShown m).
    ap feed.config_of c.source_of-feed.ensures ∙ same_network h.network m h.events h.shown)

pub add_units-requires : goal.add_units-requires
add_units-requires c =
    let m = c.args.self.now in
    let u = c.give_frame-len in
    let n = u.ensures.gives in
    let is = subst (λ (f : FrameFeed). IsFrameOf f n.0) c.source_of-feed.ensures n.1 in
    record {
      few = less_of _ _ c.requires.came (λ (h : HasShown m).
          let f = few_more c.events_law.ensures h.network m u.new.merger h.events h.shown c.requires.gives
          n.0 is u.result.1 _ n.2 in
          let e = counted_units _ _ _ _ u.result.0 u.new.out (let s = u.ensures.size in let k = u.ensures.count in
          omega (arith, s, k))
          n.2 in
          omega (arith, f, e));
    }

pub skip_source-requires-clause-can_a : goal.skip_source-requires-clause-can_a
skip_source-requires-clause-can_a c = can_leave c.args.self.now c.requires.came c.requires.gives A

pub skip_source-requires-clause-can_b : goal.skip_source-requires-clause-can_b
skip_source-requires-clause-can_b c = can_leave c.args.self.now c.requires.came c.requires.gives B

pub returns-then-not-full-clause-shown : goal.returns-then-not-full-clause-shown
returns-then-not-full-clause-shown c = λ k events s.
    let m = c.args.self.now in
    let u = c.give_frame-len in
    let n = u.ensures.gives in
    let is = subst (λ (f : FrameFeed). IsFrameOf f n.0) c.source_of-feed.ensures n.1 in
    let t = c.skip_source.ensures in
    let e = counted_units _ _ _ _ u.result.0 u.new.out (let s = u.ensures.size in let k = u.ensures.count in
    omega (arith, s, k)) n.2 in
    subst (λ (r : MergeRan). Shown k (events ++ Gave (take u.result.0 u.new.out) ∷ [])
    (record m { a = c.skip_source.new.a; b = c.skip_source.new.b; merger = u.new.merger; phase = Reads; ran = r }))
    (sym (c.add_units.ensures ∙ ap (λ (q : ℕ). record m.ran { units = m.ran.units + q }) e))
    (shown_behind c.events_law.ensures k m u.new.merger events s c.requires.gives n.0 is u.result.1 _ n.2
    c.due_records_law.ensures.follow c.skip_source.new.a c.skip_source.new.b
    (record { took_a = t.a; took_b = t.b })
    c.if-not-full.true)

pub returns-else-not-full-clause-shown : goal.returns-else-not-full-clause-shown
returns-else-not-full-clause-shown c = λ k events s.
    let m = c.args.self.now in
    let u = c.give_frame-len in
    let n = u.ensures.gives in
    let is = subst (λ (f : FrameFeed). IsFrameOf f n.0) c.source_of-feed.ensures n.1 in
    let e = counted_units _ _ _ _ u.result.0 u.new.out (let s = u.ensures.size in let k = u.ensures.count in
    omega (arith, s, k)) n.2 in
    subst (λ (r : MergeRan). Shown k (events ++ Gave (take u.result.0 u.new.out) ∷ [])
    (record m { merger = u.new.merger; ran = r }))
    (sym (c.add_units.ensures ∙ ap (λ (q : ℕ). record m.ran { units = m.ran.units + q }) e))
    (shown_units c.events_law.ensures k m u.new.merger events s c.requires.gives n.0 is u.result.1 _ n.2)
