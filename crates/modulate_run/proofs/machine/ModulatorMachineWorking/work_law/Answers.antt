use Rattle.modulate_run.proofs.WorkLemmas.{modulate_does}
use Rattle.modulate_run.proofs.machine.ModulatorMachineWorking.work_law.Goals as goal

pub returns : goal.returns
returns c = modulate_does c.due_records_law.ensures.front
