use Rattle.std.proofs.Common.{sym, subst}
use Rattle.file_run.specs.Steps.{IsWanted}
use Rattle.swap_run.specs.Steps.{reach_of}
use Rattle.swap_run.proofs.WantLemmas.{wanted_by}
use Rattle.swap_run.proofs.machine.SwapMachineMachine.step.Goals as goal

pub returns-clause-wanted : goal.returns-clause-wanted
returns-clause-wanted c = λ start events came.
    subst (IsWanted 2 events (reach_of c.args.self.now)) (sym c.next_step.ensures)
    (wanted_by c.slot_time_law.ensures.count_rises c.length_law.ensures.slot _ _ events c.args.self.now came)
