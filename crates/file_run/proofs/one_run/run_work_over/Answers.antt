use Rattle.std.proofs.Common.{ℕ, subst}
use Rattle.file_run.specs.Work.{DoesWork}
use Rattle.file_run.proofs.WorkLemmas.{ends_so}
use Rattle.file_run.proofs.one_run.run_work_over.Goals as goal

pub returns : goal.returns
returns g c =
    ends_so _ _ _ _ _ _ _ _ _ _
    (subst (λ (n : ℕ). DoesWork (g.M.Working.work c.args.machine.now) n g.M.Machine.reach g.M.Machine.next
    (g.M.Machine.Becomes c.args.machine.now) g.M.Ending.ending) c.requires.inputs
    (c.work_law.ensures c.args.machine.now))
    c.run_over.result c.run_over.ensures
