use Rattle.std.proofs.Common.{false, sym, subst}
use Rattle.file_run.specs.Steps.{IsWanted}
use Rattle.feed_merge.proofs.WantLemmas.{wanted_by}
use Rattle.compare_run.specs.Steps.{reach_of}
use Rattle.compare_run.proofs.machine.CompareMachineMachine.step.Goals as goal

pub returns-clause-wanted : goal.returns-clause-wanted
returns-clause-wanted c = λ start events s.
    let m = c.args.self.now in
    subst (IsWanted 2 events (reach_of m)) (sym c.next_step.ensures)
    (wanted_by _ events false false m.next m.a m.b s.given_a s.given_b s.both)
