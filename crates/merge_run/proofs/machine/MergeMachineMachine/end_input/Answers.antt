use Rattle.file_run.specs.Steps.{FallsShort}
use Rattle.merge_run.specs.declared.phase.Phase.TheVariants.{Reads}
use Rattle.merge_run.proofs.ShownLemmas.{shown_read, both_in}
use Rattle.merge_run.proofs.StepLemmas.{asked}
use Rattle.merge_run.proofs.machine.MergeMachineMachine.end_input.Goals as goal

pub returns-clause-becomes : goal.returns-clause-becomes
returns-clause-becomes c = λ start events s.
    let m = c.args.self.now in
    let reads = (asked FallsShort (λ i k h. h) (λ i k h. h) m.phase _ c.args.input _ c.requires.wanted).0 in
    shown_read _ m c.end_one.new.a c.end_one.new.b events _ s reads
    (c.end_one.ensures.go_on _ events m.next s.given_a s.given_b (both_in _ m events s Reads reads))
