use Rattle.std.proofs.Common.{length}
use Rattle.file_run.specs.Steps.{Suffices}
use Rattle.feed_merge.specs.declared.seen.Feed.TheVariants.{A, B}
use Rattle.feed_merge.proofs.WantLemmas.{room_of}
use Rattle.merge_run.specs.Shown.{is_held}
use Rattle.merge_run.specs.declared.phase.Phase.TheVariants.{Reads}
use Rattle.merge_run.proofs.ShownLemmas.{shown_read, both_in}
use Rattle.merge_run.proofs.StepLemmas.{asked}
use Rattle.merge_run.proofs.machine.MergeMachineMachine.feed.Goals as goal

pub feed_one-requires-clause-room : goal.feed_one-requires-clause-room
feed_one-requires-clause-room c =
    let m = c.args.self.now in
    let r = c.requires.room in
    let asks = (asked Suffices (λ i k h. h) (λ i k h. h) m.phase _ c.args.input _ c.requires.wanted).1 in
    room_of _ r.events (is_held m.phase m.source A) (is_held m.phase m.source B) m.next m.a m.b r.came.given_a
    r.came.given_b r.came.both c.args.input (length c.args.bytes.now) asks r.few

pub returns-clause-becomes : goal.returns-clause-becomes
returns-clause-becomes c = λ start events s.
    let m = c.args.self.now in
    let reads = (asked Suffices (λ i k h. h) (λ i k h. h) m.phase _ c.args.input _ c.requires.wanted).0 in
    shown_read _ m c.feed_one.new.a c.feed_one.new.b events _ s reads
    (c.feed_one.ensures.go_on _ events m.next s.given_a s.given_b (both_in _ m events s Reads reads))
