use Rattle.std.proofs.Common.{ap, sym, ◌∙◌, arith}
use Rattle.std.proofs.Math.Logic.{∥∥₁_map}
use Rattle.feed_merge.specs.FeedStandsFor.{waiting_of, is_whole}
use Rattle.feed_merge.specs.FeedStandsFor as feed
use Rattle.merge_run.specs.Shown.{HasShown}
use Rattle.merge_run.proofs.BeginLemmas.{taken, left_passed, passed, begun, begun_left, waits_now}
use Rattle.merge_run.proofs.BeginLemmas.{network_in}
use Rattle.feed_merge.proofs.BothCameLemmas.{test_of, less_of, number_of}
use Rattle.merge_run.proofs.ShownLemmas.{reading}
use Rattle.merge_run.proofs.TakeLemmas.{none_picked_is}
use Rattle.merge_run.proofs.machine.MergeMachine.begin.Goals as goal

pub returns-then-not-is_picked-clause-shown : goal.returns-then-not-is_picked-clause-shown
returns-then-not-is_picked-clause-shown c = λ k events s.
    let t = c.skip_others.ensures in
    passed c.due_records_law.ensures.follow c.grow_law.ensures k c.args.self.now _ _ events c.args.number
    c.pick_next-pick.result
    (taken _ _ _ _ _ c.pick_next-pick.ensures c.requires.least c.requires.busy t.a t.b) s c.requires.reads
    (none_picked_is c.pick_next-pick.result.source (sym c.is_picked.ensures ∙ c.if-not-is_picked.true))
    c.requires.early

pub returns-then-not-is_picked-clause-left : goal.returns-then-not-is_picked-clause-left
returns-then-not-is_picked-clause-left c =
    let t = c.skip_others.ensures in
    left_passed c.args.self.now c.skip_others.new.a c.skip_others.new.b c.args.number c.pick_next-pick.result
    (taken _ _ _ _ _ c.pick_next-pick.ensures c.requires.least c.requires.busy t.a t.b)
    (none_picked_is c.pick_next-pick.result.source (sym c.is_picked.ensures ∙ c.if-not-is_picked.true)) c.requires.reads

pub returns-clause-shown : goal.returns-clause-shown
returns-clause-shown c = λ k events s.
    let t = c.skip_others.ensures in
    begun c.due_records_law.ensures.follow c.grow_law.ensures k c.args.self.now c.skip_others.new.a
    c.skip_others.new.b events c.args.number c.pick_next-pick.result
    (taken _ _ _ _ _ c.pick_next-pick.ensures c.requires.least c.requires.busy t.a t.b) s c.requires.reads
    c.formed_law.ensures c.begin_frame.new.merger c.block_law.ensures.field c.unwrap-source.result
    c.unwrap-source.ensures (rw c.source_of.ensures at c.begin_frame.ensures) c.requires.early _ c.add.ensures

pub returns-clause-left : goal.returns-clause-left
returns-clause-left c =
    let t = c.skip_others.ensures in
    less_of _ _ c.requires.came (λ (h : HasShown c.args.self.now).
    begun_left c.due_records_law.ensures.follow c.grow_law.ensures h.network c.args.self.now c.skip_others.new.a
    c.skip_others.new.b h.events c.args.number c.pick_next-pick.result
    (taken _ _ _ _ _ c.pick_next-pick.ensures c.requires.least c.requires.busy t.a t.b) h.shown c.requires.reads
    c.formed_law.ensures c.begin_frame.new.merger c.block_law.ensures.field c.unwrap-source.result
    c.unwrap-source.ensures (rw c.source_of.ensures at c.begin_frame.ensures))

pub begin_frame-requires-clause-whole : goal.begin_frame-requires-clause-whole
begin_frame-requires-clause-whole c =
    let t = c.skip_others.ensures in
    rw c.source_of.ensures (waits_now c.args.self.now c.skip_others.new.a c.skip_others.new.b c.args.number
    c.pick_next-pick.result (taken _ _ _ _ _ c.pick_next-pick.ensures c.requires.least c.requires.busy t.a t.b)
    c.unwrap-source.result c.unwrap-source.ensures).whole

pub begin_frame-requires-clause-network : goal.begin_frame-requires-clause-network
begin_frame-requires-clause-network c =
    let t = c.skip_others.ensures in
    ∥∥₁_map c.requires.came (λ (h : HasShown c.args.self.now).
    ap feed.config_of c.source_of.ensures
    ∙ network_in h.network c.args.self.now c.skip_others.new.a c.skip_others.new.b h.events c.requires.reads
    t.a.same.network
    t.b.same.network h.shown c.unwrap-source.result)

pub begin_frame-requires-clause-given : goal.begin_frame-requires-clause-given
begin_frame-requires-clause-given c = test_of _ _ c.requires.came
    (λ (h : HasShown c.args.self.now). (reading h.network c.args.self.now h.events h.shown c.requires.reads).idle)

pub begin_frame-requires-clause-open : goal.begin_frame-requires-clause-open
begin_frame-requires-clause-open c = test_of _ _ c.requires.came
    (λ (h : HasShown c.args.self.now). (reading h.network c.args.self.now h.events h.shown c.requires.reads).is_open)

pub add-requires-clause-frames : goal.add-requires-clause-frames
add-requires-clause-frames c = less_of _ _ c.requires.came
    (λ (h : HasShown c.args.self.now). let f = h.shown.counts.frames in let e = h.shown.both.early in
    omega (arith, f, e))

pub add-requires-clause-parts : goal.add-requires-clause-parts
add-requires-clause-parts c = number_of _ _ c.requires.came (λ (h : HasShown c.args.self.now). h.shown.counts.parts)
