use Rattle.std.proofs.Common.{false, length}
use Rattle.std.proofs.lemmas.Bool.{ltb-false}
use Rattle.file_run.specs.Steps.{Suffices}
use Rattle.feed_merge.proofs.WantLemmas.{room_of}
use Rattle.compare_run.specs.Steps.{is_telling}
use Rattle.compare_run.proofs.ShownLemmas.{shown_read}
use Rattle.compare_run.proofs.StepLemmas.{asked}
use Rattle.compare_run.proofs.machine.CompareMachineMachine.feed.Goals as goal

pub feed_one-requires : goal.feed_one-requires
feed_one-requires c =
    let m = c.args.self.now in
    let r = c.requires.room in
    let asks = (asked Suffices (λ i k h. h) (λ i k h. h) (is_telling m) m.done _ c.args.input _ c.requires.wanted).2 in
    record {
      wanted = asks;
      room = room_of _ r.events false false m.next m.a m.b r.came.given_a r.came.given_b r.came.both
          c.args.input (length c.args.bytes.now)
          asks r.few;
    }

pub returns-clause-becomes : goal.returns-clause-becomes
returns-clause-becomes c = λ start events s.
    let m = c.args.self.now in
    let w = asked Suffices (λ i k h. h) (λ i k h. h) (is_telling m) m.done _ c.args.input _ c.requires.wanted in
    shown_read _ m c.feed_one.new.a c.feed_one.new.b events _ s
    (ltb-false m.plp _ w.0) w.1
    (c.feed_one.ensures.go_on _ events m.next s.given_a s.given_b s.both)
