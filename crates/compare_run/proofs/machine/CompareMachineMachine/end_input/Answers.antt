use Rattle.std.proofs.lemmas.Bool.{ltb-false}
use Rattle.file_run.specs.Steps.{FallsShort}
use Rattle.compare_run.specs.Steps.{is_telling}
use Rattle.compare_run.proofs.ShownLemmas.{shown_read}
use Rattle.compare_run.proofs.StepLemmas.{asked}
use Rattle.compare_run.proofs.machine.CompareMachineMachine.end_input.Goals as goal

pub end_one-requires : goal.end_one-requires
end_one-requires c =
    let m = c.args.self.now in
    record {
      wanted = (asked FallsShort (λ i k h. h) (λ i k h. h) (is_telling m) m.done _ c.args.input _ c.requires.wanted).2;
    }

pub returns-clause-becomes : goal.returns-clause-becomes
returns-clause-becomes c = λ start events s.
    let m = c.args.self.now in
    let w = asked FallsShort (λ i k h. h) (λ i k h. h) (is_telling m) m.done _ c.args.input _ c.requires.wanted in
    shown_read _ m c.end_one.new.a c.end_one.new.b events _ s
    (ltb-false m.plp _ w.0) w.1
    (c.end_one.ensures.go_on _ events m.next s.given_a s.given_b s.both)
