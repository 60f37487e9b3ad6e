use Rattle.std.proofs.Common.{sym, subst}
use Rattle.file_run.specs.Steps.{IsWanted}
use Rattle.feed_merge.proofs.WantLemmas.{wanted_by}
use Rattle.feed_merge.specs.declared.seen.Feed.TheVariants.{A, B}
use Rattle.merge_run.specs.Shown.{is_held}
use Rattle.merge_run.specs.Steps.{reach_of}
use Rattle.merge_run.proofs.machine.MergeMachineMachine.step.Goals as goal

pub returns-in-Reads-clause-wanted : goal.returns-in-Reads-clause-wanted
returns-in-Reads-clause-wanted c = λ start events s.
    let m = c.args.self.now in
    subst (IsWanted 2 events (reach_of m)) (sym c.next_step.ensures)
    (wanted_by _ events (is_held m.phase m.source A) (is_held m.phase m.source B) m.next m.a m.b s.given_a
    s.given_b s.both)
